-- A holder leaves the agent's list, by its own release or by a RELEASE that is delivered; from an empty list the agent leaves too.
use Rattle.std.specs.Prelude.{◌≡◌, ◌∷◌, ◌+◌, ◌≤◌, ◌<◌}
use Rattle.theorems.specs.Names.{MachineId, ClientId, Mode, Waiter, Agent, AgentSlot, Free, Grant, Packet, LockState, refl, ◌∙◌, Bool, true, false}
use Rattle.theorems.specs.Names.{true≢false, false≢true, List, [], ℕ, arith, length, get_or, length-set, ne_eqb, lt-ltb, any}
use Rattle.theorems.specs.Names.{some_agent, listed, queue_of, waiters, no_agent, Site, with_slot, changed, any_holder, without, departing, lists, hand_over}
use Rattle.theorems.specs.Names.{stays_if, leaves, waiters_of, machines, clients, site_of, with_status, with_note, ClientState, owned_shared}
use Rattle.theorems.specs.Weights.{note_at, status_at, slot_at, one, hit, ask_m, queued_s, waiting_p, mark_m, listed_s, listed_p, owed_m, owed_p, release_m}
use Rattle.theorems.specs.Weights.{release_p, agent_s, agent_p, incarnation_s, incarnation_p, mark_all, mark_p, rejected_p, heads, vacant_s, wait_f}
use Rattle.theorems.specs.Weights.{hold_f, idle_f}
use Rattle.theorems.specs.Weights.{far_p, few, misfit_s, fits_away, fits_free, fits, misfit_p}
use Rattle.theorems.specs.Tally.{flag, tally, tally_set}
use Rattle.theorems.specs.Invariant.{Inv}
use Rattle.theorems.specs.InvariantStep.{Keeps, Split, told, keep, vacancy_by, framed, Becomes}
use Rattle.theorems.specs.Sent.{Good}
use Rattle.theorems.specs.Facts.{list_off, away_fits, Home, home_fits, slot_home, few_less, waiter_below, hit_self, in_slot}

-- what the two have in common: c is removed, its status becomes st, the packets gone leave the wire
pub record Leaver (r : LockState) (c : ClientId) (st : ClientState) (gone rest : List Packet) : Type 0 where
  pub split : Split r gone rest
  pub waits : (d : ℕ) (m : Mode) → tally (waiting_p d m) gone + wait_f m (told r c st d).status ≡ wait_f m (status_at r d)
  pub lists : (d : ℕ) → tally (listed_p d) gone ≡ 0
  pub holds : (d : ℕ) → hold_f (status_at r d) + tally (owed_p d) gone ≡ hold_f (told r c st d).status + one d c
  pub rels : (d : ℕ) → tally (release_p d) rest ≤ idle_f (told r c st d).status
  pub agent : tally agent_p gone ≡ 0
  pub incs : tally incarnation_p gone ≡ 0
  pub marks : tally mark_p gone ≡ 0
  pub client : Becomes r c st
  pub owed : owned_shared r.decider.owner ≡ false → (d : ℕ) → tally (owed_p d) rest + flag (note_at r d)
      ≤ tally (release_p d) rest + idle_f (told r c st d).status

none_listed : (hs : List Bool) → any (λ (b : Bool). b) hs ≡ false → tally flag hs ≡ 0
unfolding tally
none_listed [] e = refl
none_listed (true ∷ hs) e = absurd (true≢false e)
none_listed (false ∷ hs) e = omega (arith, none_listed hs e)

some_listed : (hs : List Bool) → any (λ (b : Bool). b) hs ≡ true → tally flag hs ≡ 0 → ⊥
unfolding tally
some_listed [] e z = false≢true e
some_listed (true ∷ hs) e z = omega arith
some_listed (false ∷ hs) e z = some_listed hs e (omega arith)

module _ (pref : ℕ) (r : LockState) (i : Inv r) (k : MachineId) (kk : k.0 < machines) (a : Agent) (es : slot_at r k.0 ≡ some_agent a) (c : ClientId)
    (cl : c.0 < clients) (li : listed a c ≡ true) (st : ClientState) (gone rest : List Packet) (le : Leaver r c st gone rest) where
  -- the site, with that status and note
  abbrev site : Site
  site = with_slot (with_note (with_status (site_of pref r k c) st.status) st.lost) (some_agent a)

  abbrev hs : List Bool
  hs = without a c

  home : Home r.decider.owner k.0 a
  home = slot_home r k.0 a i es

  hl : c.0 < length a.holders
  hl = omega (arith, home.sized)

  -- what the three cases share: the slot and the packets are open
  keep_left : (new : AgentSlot) (qs : List Packet) → ((d : ℕ) (n : Mode) → tally (waiting_p d n) qs + queued_s d n new ≡ queued_s d n (some_agent a))
      → ((d : ℕ) → tally (listed_p d) qs + listed_s d new ≡ flag (get_or hs d false)) → ((d : ℕ) → (tally (owed_p d) qs ≡ 0) × (tally (release_p d) qs ≡ 0))
      → tally agent_p qs + agent_s new ≡ 1 → tally incarnation_p qs + incarnation_s new ≡ a.incarnation → tally mark_p qs ≡ 0
      → tally (misfit_p r.decider.owner) qs ≡ 0 → misfit_s r.decider.owner k.0 new ≡ 0 → tally far_p qs ≡ 0 → tally rejected_p qs + vacant_s new ≡ 0
      → Keeps r k c rest (with_slot site new) qs
  unfolding listed_s agent_s incarnation_s one
  keep_left new qs w l z h n ma f g fa v =
      keep i
      (record {
        frame = framed le.split kk es refl refl;
        waits = λ d m. omega (arith, w d m, le.waits d m);
        holds = λ d. omega (arith, l d, z d, le.lists d, le.holds d, list_off a.holders c.0 d hl li);
        rels = λ d. omega (arith, z d, le.rels d);
        agent = omega (arith, h, le.agent);
        incs = λ x q. omega (arith, q, n, ma, le.incs, le.marks);
        client = le.client;
        owed = λ q d. omega (arith, z d, le.owed q d);
        fitting = f;
        slot = g;
        reach = fa;
        vacancy = vacancy_by new qs i le.split kk es (omega (arith, v, ma, le.marks));
      })

  -- a holder remains
  keep_some : any_holder hs ≡ true → Good r k c rest (stays_if true site a hs)
  unfolding stays_if tally queued_s listed_s agent_s incarnation_s vacant_s
  keep_some so =
      keep_left (some_agent (changed a hs a.queue a.incarnation)) [] (λ d n. omega arith) (λ d. omega arith) (λ d. (refl, refl)) refl (omega arith) refl
      refl (home_fits r.decider.owner k.0 _
      (record {
        at = home.at;
        mode = home.mode;
        sized = length-set a.holders c.0 false ∙ home.sized;
        few = few_less a.mode (heads a) _ (omega (arith, tally_set flag false a.holders c.0 false hl)) home.few;
        small = home.small;
      })) refl (rw (ne_eqb (tally flag hs) 0 (some_listed hs so)))

  away : any_holder hs ≡ false → (ws : List Waiter) → fits_away (changed a hs (queue_of ws) a.incarnation) ≡ true
  away no_one ws = away_fits _ (record { sized = length-set a.holders c.0 false ∙ home.sized; empty = none_listed hs no_one; small = home.small })

  -- none remains: by the queue
  keep_none : any_holder hs ≡ false → (ws : List Waiter) → waiters a.queue ≡ ws → Keeps r k c rest (with_slot site no_agent) (hand_over a hs ws ∷ [])
  unfolding hand_over tally ask_m mark_m owed_m release_m mark_all queued_s listed_s agent_s incarnation_s vacant_s misfit_p misfit_s fits fits_free
      queue_of no_agent
  keep_none no_one [] q =
      keep_left no_agent (departing Free a hs [] ∷ []) (λ d n. rw (q, waiters_of [])) (λ d. omega arith) (λ d. (refl, refl)) refl (omega arith) refl
      (rw (home.mode, away no_one [])) refl refl refl
  keep_none no_one (w ∷ ws) q =
      let self : hit w.client.0 w.mode w.client w.mode ≤ queued_s w.client.0 w.mode (some_agent a) = rw q (omega arith) in
      let in-queue = in_slot r (waiting_p w.client.0 w.mode) (queued_s w.client.0 w.mode) k.0 (some_agent a) i kk es in
      let wb : w.client.0 < clients = waiter_below r w.client.0 w.mode i (omega (arith, hit_self w.client w.mode, self, in-queue)) in
      keep_left no_agent (departing (Grant w.client w.mode) a hs ws ∷ []) (λ d n. rw (q, waiters_of ws) (omega arith)) (λ d. omega arith)
      (λ d. (refl, refl)) refl (omega arith) refl (rw (lt-ltb w.client.0 clients wb, home.mode, away no_one ws)) refl refl refl

  pub keep_leaves : Good r k c rest (leaves site a c)
  keep_leaves = go (any_holder hs) refl
    where
      go : (b : Bool) → any_holder hs ≡ b → Good r k c rest (stays_if b site a hs)
      go true q = keep_some q
      go false q = unfold stays_if in keep_none q (waiters a.queue) refl
