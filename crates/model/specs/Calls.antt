-- The calls on a cluster, and lists of calls.
use Rattle.std.specs.Prelude.{Bool, true, false, ◌&&◌, ◌||◌, not, List, [], ◌∷◌, ℕ, length, get_or, set, eqb, leb, ltb, Option, Some, Ok}
use Rattle.model.specs.Lists.{pick, any, removed}
use Rattle.model.specs.Names.{LockId, MachineId, TaskId, ClientId, Mode, Address, ToDecider, ToMachine, Message, Free, Acquire, Grant, Release, Packet}
use Rattle.model.specs.Names.{Status, Idle, Waiting, Holding, LockState, Cluster, Call, AcquireCall, ReleaseCall, DeliverCall, LoseCall, GiveUpCall}
use Rattle.model.specs.Names.{MachineRange, TaskRange, ModeRange, NotIdle, StillNamed, NotHolding, IndexRange, PreferenceRange, Refusal, Answer}
use Rattle.model.specs.Names.{Accepted, Malformed, LockRange, CannotGiveUp, CannotLose, Refused, AgentSlot, Handling, None, NoAgent, NotHolder, Taken}
use Rattle.model.specs.Names.{Stepped, Outcome, Site}
use Rattle.model.specs.States.{locks, machines, tasks, client_of, machine_of, mode_of, status_of, agent_on, packets, blank_packet, lock_in, fresh_with}
use Rattle.model.specs.States.{preferences, is_waiting}
use Rattle.model.specs.WellFormed.{well_formed, to_decider}
use Rattle.model.specs.Changes.{site_of, Verdict, finish, telling}
use Rattle.model.specs.Asking.{client_acquires, client_releases, client_gives_up, grant_is_lost}
use Rattle.model.specs.AtDecider.{at_decider}
use Rattle.model.specs.AtMachine.{at_machine, handles}
use Rattle.model.specs.Refusals.{Cause, ◌when◌, first}

abbrev pub is_idle : Status → Bool
is_idle Idle = true
is_idle (Waiting m) = false
is_idle (Holding m) = false

abbrev pub is_holding : Status → Bool
is_holding Idle = false
is_holding (Waiting m) = false
is_holding (Holding m) = true

-- a packet names a client: FREE names none
abbrev pub message_names : ClientId → Message → Bool
message_names c (Acquire d m g) = eqb d.0 c.0
message_names c (Grant d m) = eqb d.0 c.0
message_names c (Release d) = eqb d.0 c.0
message_names c Free = false

abbrev pub names : ClientId → Packet → Bool
names c p = message_names c p.message

-- A packet is delivered at the decider or at a machine, by its address.
unfoldable pub delivers : Address → Site → Packet → Verdict
delivers ToDecider v p = at_decider v p
delivers (ToMachine k) v p = at_machine v p

-- What it tells: a machine's handling. The decider tells none.
unfoldable pub handled_at : Address → Message → AgentSlot → Option Handling
handled_at ToDecider m x = None
handled_at (ToMachine k) m x = handles m x

-- The machine that a delivery is about: the address's. At the decider no rule looks at it, so any will do.
abbrev pub machine_at : Address → MachineId
machine_at ToDecider = record { 0 = 0 }
machine_at (ToMachine k) = k

-- The client that it is about: the packet's. FREE names none, and its rules look at none.
abbrev pub client_named : Message → ClientId
client_named (Acquire c m g) = c
client_named (Grant c m) = c
client_named (Release c) = c
client_named Free = record { 0 = 0 }

-- the packet at an index of the wire
abbrev pub packet_at : LockState → ℕ → Packet
packet_at s i = get_or (packets s.wire) i blank_packet

-- The steps on one lock's state, in a cluster with the preference n: the rules, with refusals 9 and 10. A client's own call is about its machine and itself.
unfoldable pub acquire_step : ℕ → LockState → ClientId → Mode → Stepped
acquire_step n s c m = finish (machine_of c) c (client_acquires (site_of n s (machine_of c) c) c m) (packets s.wire) s

unfoldable pub release_step : ℕ → LockState → ClientId → Stepped
release_step n s c = finish (machine_of c) c (client_releases (site_of n s (machine_of c) c) c) (packets s.wire) s

-- the packet p is taken off the wire, which keeps the rest
unfoldable pub takes : ℕ → LockState → Packet → List Packet → Stepped
takes n s p rest =
    telling (handled_at p.to p.message (agent_on s (machine_at p.to))) (finish (machine_at p.to) (client_named p.message)
    (delivers p.to (site_of n s (machine_at p.to) (client_named p.message)) p) rest s)

unfoldable pub deliver_step : ℕ → LockState → ℕ → Stepped
deliver_step n s i = takes n s (packet_at s i) (removed (packets s.wire) i)

unfoldable pub give_up_step : ℕ → LockState → ClientId → Stepped
give_up_step n s c = finish (machine_of c) c (client_gives_up (site_of n s (machine_of c) c) c) (packets s.wire) s

-- the packet p is lost, the wire keeps the rest
unfoldable pub drops : ℕ → LockState → Packet → List Packet → Stepped
drops n s p rest =
    finish (machine_at p.to) (client_named p.message) (grant_is_lost (site_of n s (machine_at p.to) (client_named p.message))) rest s

unfoldable pub lose_step : ℕ → LockState → ℕ → Stepped
lose_step n s i = drops n s (packet_at s i) (removed (packets s.wire) i)

-- what can be lost: a GRANT without agent, on its way to a machine
abbrev pub is_grant : Message → Bool
is_grant (Acquire c m g) = false
is_grant (Grant c m) = true
is_grant (Release c) = false
is_grant Free = false

unfoldable pub can_be_lost : Packet → Bool
can_be_lost p = is_grant p.message && (not p.carried.present && not (to_decider p.to))

-- The causes of each call, in the order of their tests: of the cluster, of the call's numbers, of the lock's state. 9 and 10 come last, with the step.
abbrev pub idle_tests : LockState → ClientId → List Cause
idle_tests s c = (NotIdle when not (is_idle (status_of s c))) ∷ (StillNamed when any (names c) (packets s.wire)) ∷ []

abbrev pub acquire_tests : LockState → MachineId → TaskId → ℕ → List Cause
acquire_tests s k t m =
    (MachineRange when leb machines k.0)
    ∷ (TaskRange when leb tasks t.0)
    ∷ (ModeRange when not (eqb m 2 || eqb m 3))
    ∷ idle_tests s (client_of k t)

abbrev pub holding_tests : LockState → ClientId → List Cause
holding_tests s c = (NotHolding when not (is_holding (status_of s c))) ∷ []

abbrev pub release_tests : LockState → MachineId → TaskId → List Cause
release_tests s k t = (MachineRange when leb machines k.0) ∷ (TaskRange when leb tasks t.0) ∷ holding_tests s (client_of k t)

abbrev pub deliver_tests : LockState → ℕ → List Cause
deliver_tests s i = (IndexRange when leb (length (packets s.wire)) i) ∷ []

abbrev pub lose_tests : LockState → ℕ → List Cause
lose_tests s i = (IndexRange when leb (length (packets s.wire)) i) ∷ (CannotLose when not (can_be_lost (packet_at s i))) ∷ []

abbrev pub waiting_tests : LockState → ClientId → List Cause
waiting_tests s c = (CannotGiveUp when not (is_waiting (status_of s c))) ∷ []

abbrev pub give_up_tests : LockState → MachineId → TaskId → List Cause
give_up_tests s k t = (MachineRange when leb machines k.0) ∷ (TaskRange when leb tasks t.0) ∷ waiting_tests s (client_of k t)

abbrev pub causes : Cluster → LockId → List Cause → List Cause
causes x l tests = (Malformed when not (well_formed x)) ∷ (LockRange when leb locks l.0) ∷ tests

-- A refused call leaves the cluster as it was, and tells no handling.
abbrev pub refusing : Refusal → Cluster → Outcome
refusing r x = record { answer = Refused r; handling = None; cluster = x }

-- the lock's state after the step is put in its place
abbrev pub with_lock : Cluster → LockId → LockState → Cluster
with_lock x l s = record { preference = x.preference; locks = set x.locks l.0 s }

unfoldable pub settled : Answer → Cluster → LockId → Stepped → Outcome
settled (Ok tt) x l t = record { answer = Accepted; handling = t.handling; cluster = with_lock x l t.state }
settled (Refused r) x l t = refusing r x

unfoldable pub unless : Answer → Cluster → LockId → Stepped → Outcome
unless (Ok tt) x l t = settled t.answer x l t
unless (Refused r) x l t = refusing r x

unfoldable pub acquire : Cluster → LockId → MachineId → TaskId → ℕ → Outcome
acquire x l k t m = unless (first (causes x l (acquire_tests (lock_in x l) k t m))) x l (acquire_step x.preference (lock_in x l) (client_of k t) (mode_of m))

unfoldable pub release : Cluster → LockId → MachineId → TaskId → Outcome
release x l k t = unless (first (causes x l (release_tests (lock_in x l) k t))) x l (release_step x.preference (lock_in x l) (client_of k t))

unfoldable pub deliver : Cluster → LockId → ℕ → Outcome
deliver x l i = unless (first (causes x l (deliver_tests (lock_in x l) i))) x l (deliver_step x.preference (lock_in x l) i)

unfoldable pub lose : Cluster → LockId → ℕ → Outcome
lose x l i = unless (first (causes x l (lose_tests (lock_in x l) i))) x l (lose_step x.preference (lock_in x l) i)

unfoldable pub give_up : Cluster → LockId → MachineId → TaskId → Outcome
give_up x l k t = unless (first (causes x l (give_up_tests (lock_in x l) k t))) x l (give_up_step x.preference (lock_in x l) (client_of k t))

-- A call as data, and the lock that it is about.
unfoldable pub perform : Call → Cluster → Outcome
perform (AcquireCall l k t m) x = acquire x l k t m
perform (ReleaseCall l k t) x = release x l k t
perform (DeliverCall l i) x = deliver x l i
perform (LoseCall l i) x = lose x l i
perform (GiveUpCall l k t) x = give_up x l k t

abbrev pub lock_of : Call → LockId
lock_of (AcquireCall l k t m) = l
lock_of (ReleaseCall l k t) = l
lock_of (DeliverCall l i) = l
lock_of (LoseCall l i) = l
lock_of (GiveUpCall l k t) = l

-- Making a cluster is answered too: with the preference n, or refused with one that prefers readers.
unfoldable pub fresh : ℕ → Outcome
fresh n = pick (ltb n preferences) (record { answer = Accepted; handling = None; cluster = fresh_with n }) (refusing PreferenceRange (fresh_with 0))

-- Calls one after another, each on the cluster that the one before left.
unfoldable pub run : List Call → Cluster → Cluster
run [] x = x
run (c ∷ cs) x = run cs (perform c x).cluster

-- the answers of a list's calls, in its order
abbrev pub answers_of : List Call → Cluster → List Answer
answers_of [] x = []
answers_of (c ∷ cs) x = (perform c x).answer ∷ answers_of cs (perform c x).cluster

-- and all of them from a fresh cluster, made with the preference n as given
abbrev pub after : ℕ → List Call → Cluster
after n cs = run cs (fresh n).cluster

-- The handlings that the calls of a list tell, in its order, and the last of these: the one told before them where they tell none.
abbrev pub handlings_of : List Call → Cluster → List (Option Handling)
handlings_of [] x = []
handlings_of (c ∷ cs) x = (perform c x).handling ∷ handlings_of cs (perform c x).cluster

abbrev pub latest : Option Handling → Option Handling → Option Handling
latest h None = h
latest h (Some g) = Some g

unfoldable pub last_told : Option Handling → List (Option Handling) → Option Handling
last_told h [] = h
last_told h (g ∷ gs) = last_told (latest h g) gs
