-- Who waits and who holds, by what the calls of a run did (document 01, "Runs, waits and holds"). The statuses are not looked at: that they agree
-- is a theorem.
use Rattle.std.specs.Prelude.{Bool, true, false, ◌&&◌, ◌||◌, not, List, [], ◌∷◌, ℕ, ◌+◌, eqb, Ok}
use Rattle.model.specs.Lists.{pick}
use Rattle.model.specs.Names.{LockId, ClientId, Mode, Address, ToDecider, ToMachine, Message, Free, Acquire, Grant, Release, Packet, Status, Idle}
use Rattle.model.specs.Names.{Accepted, Refused, Waiting, Holding, Cluster, Call, AcquireCall, ReleaseCall, DeliverCall, LoseCall, GiveUpCall, Answer}
use Rattle.model.specs.States.{mode_of, client_of, machine_of, agent_on, lock_in, is_waiting}
use Rattle.model.specs.Asking.{lists}
use Rattle.model.specs.Calls.{packet_at, perform, fresh}

-- What one client has seen of one lock: its phase, how many grants it was shown, whether it waits and its own was lost, and how often it gave up.
pub record View : Type 0 where
  pub phase : Status
  pub grants : ℕ
  pub lost : Bool
  pub given : ℕ

-- a view in this phase, with nothing counted yet
abbrev pub viewed : Status → Bool → View
viewed st b = record { phase = st; grants = 0; lost = b; given = 0 }

abbrev pub unseen : View
unseen = viewed Idle false

abbrev pub same_lock : LockId → LockId → Bool
same_lock l j = eqb l.0 j.0

abbrev pub same_client : ClientId → ClientId → Bool
same_client c d = eqb c.0 d.0

abbrev pub is_accepted : Answer → Bool
is_accepted (Ok tt) = true
is_accepted (Refused r) = false

-- the agent of the client's machine lists it
abbrev pub listed_home : LockId → ClientId → Cluster → Bool
listed_home l c x = lists (agent_on (lock_in x l) (machine_of c)) c

-- Its own acquire shows it a grant where its machine's agent lists it after the call and did not before,
abbrev pub joins_now : LockId → ClientId → Cluster → Cluster → Bool
joins_now l c x y = listed_home l c y && not (listed_home l c x)

-- and so does a GRANT for it that reaches a machine and is not rejected.
abbrev pub to_machine : Address → Bool
to_machine ToDecider = false
to_machine (ToMachine k) = true

abbrev pub is_grant_for : ClientId → Message → Bool
is_grant_for c (Grant d m) = same_client c d
is_grant_for c (Acquire d m g) = false
is_grant_for c (Release d) = false
is_grant_for c Free = false

abbrev pub shows_grant : ClientId → Packet → Bool
shows_grant c p = to_machine p.to && (is_grant_for c p.message && not p.rejected)

-- How each changes its view: after an acquire it holds if it was shown a grant, and waits if not; a grant makes who waits a holder, in the mode asked
-- for, and is none to who is idle; a release makes it idle, and so does giving up; a GRANT for it that is lost is noted while it waits.
abbrev pub after_acquire : Mode → Bool → View → View
after_acquire m true v = record { phase = Holding m; grants = v.grants + 1; lost = false; given = v.given }
after_acquire m false v = record { phase = Waiting m; grants = v.grants; lost = false; given = v.given }

abbrev pub after_grant_in : Status → View → View
after_grant_in Idle v = v
after_grant_in (Waiting m) v = record { phase = Holding m; grants = v.grants + 1; lost = false; given = v.given }
after_grant_in (Holding m) v = record { phase = Holding m; grants = v.grants + 1; lost = false; given = v.given }

abbrev pub after_grant : View → View
after_grant v = after_grant_in v.phase v

abbrev pub after_release : View → View
after_release v = record { phase = Idle; grants = v.grants; lost = false; given = v.given }

abbrev pub after_give_up : View → View
after_give_up v = record { phase = Idle; grants = v.grants; lost = false; given = v.given + 1 }

abbrev pub after_loss : View → View
after_loss v = record { phase = v.phase; grants = v.grants; lost = v.lost || is_waiting v.phase; given = v.given }

-- the view of client c on lock l after an accepted call on x that gave y; j is the call's own lock
unfoldable pub sees : LockId → ClientId → Call → Cluster → Cluster → View → View
sees l c (AcquireCall j k t m) x y v = pick (same_lock l j && same_client c (client_of k t)) (after_acquire (mode_of m) (joins_now l c x y) v) v
sees l c (ReleaseCall j k t) x y v = pick (same_lock l j && same_client c (client_of k t)) (after_release v) v
sees l c (GiveUpCall j k t) x y v = pick (same_lock l j && same_client c (client_of k t)) (after_give_up v) v
sees l c (LoseCall j i) x y v = pick (same_lock l j && is_grant_for c (packet_at (lock_in x l) i).message) (after_loss v) v
sees l c (DeliverCall j i) x y v = pick (same_lock l j && shows_grant c (packet_at (lock_in x l) i)) (after_grant v) v

unfoldable pub watch : LockId → ClientId → List Call → Cluster → View → View
watch l c [] x v = v
watch l c (a ∷ cs) x v =
    watch l c cs (perform a x).cluster (pick (is_accepted (perform a x).answer) (sees l c a x (perform a x).cluster v) v)

-- the phase after a list of calls from a fresh cluster, made with the preference n
abbrev pub phase_after : ℕ → LockId → ClientId → List Call → Status
phase_after n l c cs = (watch l c cs (fresh n).cluster unseen).phase

-- and whether its grant was lost
abbrev pub lost_after : ℕ → LockId → ClientId → List Call → Bool
lost_after n l c cs = (watch l c cs (fresh n).cluster unseen).lost

-- the grants that a client in phase st is shown by a list of calls on x, and how often it gives up in it
abbrev pub grants_in : LockId → ClientId → List Call → Cluster → Status → Bool → ℕ
grants_in l c cs x st b = (watch l c cs x (viewed st b)).grants

abbrev pub given_up_in : LockId → ClientId → List Call → Cluster → Status → Bool → ℕ
given_up_in l c cs x st b = (watch l c cs x (viewed st b)).given
