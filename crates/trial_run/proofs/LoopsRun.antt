-- The recursions of the definitions, one turn at a time, as loops make them.
use Rattle.std.proofs.Common.{◌≡◌, ℕ, zero, suc, ◌+◌, ◌-◌, ◌%◌, ◌^◌, ◌<◌, ◌≤◌, Bool, true, false, not, ◌&&◌, List, [], ◌∷◌, length, refl, sym, ap, subst, ◌∙◌, arith}
use Rattle.std.specs.Prelude.{if◌then◌else◌}
use Rattle.wl_wire.specs.Messages.{messages}
use Rattle.wl_wire.specs.declared.raw.Raw.{Raw}
use Rattle.wl_wire.specs.declared.front.Front.{Front}
use Rattle.wl_wire.specs.declared.front.Front.TheVariants as front
use Rattle.wl_wire.specs.Fronts.{HasMessages}
use Rattle.broker_model.specs.declared.journal.Entry.{Entry}
use Rattle.broker_core.specs.Broker.{Broker}
use Rattle.broker_core.specs.Taking.{lives}
use Rattle.trial_script.specs.declared.action.Action.{Action}
use Rattle.trial_run.specs.declared.stop.Stop.{Stop}
use Rattle.trial_run.specs.declared.whose.Whose.{Whose}
use Rattle.trial_run.specs.declared.whose.Whose.TheVariants as whose
use Rattle.trial_run.specs.Ran.{Ran, went, ◌>>=◌}
use Rattle.trial_run.specs.Steps.{stepped, message_entry, messages_sent, has_stored}
use Rattle.trial_run.specs.Play.{TrialPlay, number_of}
use Rattle.trial_run.specs.Rounds.{one_take, takes, turn, field_turns, round, is_due, fields_quiet, is_quiet, rounds}
use Rattle.trial_run.specs.Lines.{line_played, actions_played}
use Rattle.trial_run.specs.Trial.{field_joined, fields_joined}
use Rattle.trial_run.specs.Working.{IsStop, IsHalt}
use Rattle.trial_run.proofs.RunsInTurn.{goes, step_halts, run_halts}

less : (n k : ℕ) → k < n → n - k ≡ suc (n - (k + 1))
less n k h = omega arith

-- ---- the messages of a peer

pub messages_none : (q : ℕ) (ms : List (List ℕ)) (b : Broker) → lives b.journal q ≡ false →
    messages_sent q ms b ≡ went b
unfolding messages_sent
messages_none q [] b e = refl
messages_none q (m ∷ ms) b e =
    ap (λ (live : Bool). if live then stepped (message_entry q m) b >>= messages_sent q ms else went b) e

messages_next : (q : ℕ) (m : List ℕ) (ms : List (List ℕ)) (b : Broker) → lives b.journal q ≡ true →
    messages_sent q (m ∷ ms) b ≡ (stepped (message_entry q m) b >>= messages_sent q ms)
unfolding messages_sent
messages_next q m ms b e =
    ap (λ (live : Bool). if live then stepped (message_entry q m) b >>= messages_sent q ms else went b) e

pub messages_go : (q : ℕ) (m : List ℕ) (ms : List (List ℕ)) (b after : Broker) → lives b.journal q ≡ true →
    stepped (message_entry q m) b ≡ went after → messages_sent q (m ∷ ms) b ≡ messages_sent q ms after
messages_go q m ms b after e s =
    messages_next q m ms b e ∙ goes (stepped (message_entry q m) b) after (messages_sent q ms) s

pub messages_stop : (q : ℕ) (m : List ℕ) (ms : List (List ℕ)) (b : Broker) (stop : Stop) → lives b.journal q ≡ true →
    IsStop (stepped (message_entry q m) b) stop → IsStop (messages_sent q (m ∷ ms) b) stop
messages_stop q m ms b stop e s =
    subst (λ (r : Ran Broker). IsStop r stop) (sym (messages_next q m ms b e))
    (step_halts (stepped (message_entry q m) b) (messages_sent q ms) stop s)

pub messages_end : (q : ℕ) (b : Broker) → messages_sent q [] b ≡ went b
unfolding messages_sent
messages_end q b = refl

-- as the loop finds them in bytes

pub front_none : (bytes : List ℕ) (f : Front) → ((raw : Raw) (used : ℕ) → f ≡ front.Whole raw used → ⊥) →
    HasMessages bytes f → messages bytes ≡ []
front_none bytes (front.Whole raw used) other h = absurd (other raw used refl)
front_none bytes front.Part other h = h.0
front_none bytes front.BadSize other h = h.0

pub sends_go : (q : ℕ) (bytes rest m more : List ℕ) (b0 b after : Broker) (e : Entry) →
    messages_sent q (messages rest) b ≡ messages_sent q (messages bytes) b0 → messages rest ≡ m ∷ messages more →
    lives b.journal q ≡ true → e ≡ message_entry q m → stepped e b ≡ went after →
    messages_sent q (messages more) after ≡ messages_sent q (messages bytes) b0
sends_go q bytes rest m more b0 b after e left first live is s =
    sym (messages_go q m (messages more) b after live (ap (λ (x : Entry). stepped x b) (sym is) ∙ s))
    ∙ ap (λ (ms : List (List ℕ)). messages_sent q ms b) (sym first) ∙ left

pub sends_stop : (q : ℕ) (bytes rest m more : List ℕ) (b0 b : Broker) (e : Entry) (stop : Stop) →
    messages_sent q (messages rest) b ≡ messages_sent q (messages bytes) b0 → messages rest ≡ m ∷ messages more →
    lives b.journal q ≡ true → e ≡ message_entry q m → IsStop (stepped e b) stop →
    IsStop (messages_sent q (messages bytes) b0) stop
sends_stop q bytes rest m more b0 b e stop left first live is s =
    subst (λ (r : Ran Broker). IsStop r stop) (ap (λ (ms : List (List ℕ)). messages_sent q ms b) (sym first) ∙ left)
    (messages_stop q m (messages more) b stop live (subst (λ (x : Entry). IsStop (stepped x b) stop) is s))

-- ---- the takes of a client

pub takes_none : (n : ℕ) (who : Whose) (t : TrialPlay) → has_stored (number_of who) t.broker ≡ false →
    takes n who t ≡ went t
unfolding takes
takes_none zero who t e = refl
takes_none (suc n) who t e = ap (λ (some : Bool). if some then one_take who t >>= takes n who else went t) e

takes_next : (n : ℕ) (who : Whose) (t : TrialPlay) → has_stored (number_of who) t.broker ≡ true →
    takes (suc n) who t ≡ (one_take who t >>= takes n who)
unfolding takes
takes_next n who t e = ap (λ (some : Bool). if some then one_take who t >>= takes n who else went t) e

pub takes_go : (n k : ℕ) (who : Whose) (t mid : TrialPlay) → k < n → has_stored (number_of who) t.broker ≡ true →
    one_take who t ≡ went mid → takes (n - k) who t ≡ takes (n - (k + 1)) who mid
takes_go n k who t mid h e s =
    ap (λ m. takes m who t) (less n k h) ∙ takes_next (n - (k + 1)) who t e
    ∙ goes (one_take who t) mid (takes (n - (k + 1)) who) s

pub takes_stop : (n k : ℕ) (who : Whose) (t after : TrialPlay) (stop : Stop) → k < n →
    has_stored (number_of who) t.broker ≡ true → IsHalt (one_take who t) stop after →
    IsHalt (takes (n - k) who t) stop after
takes_stop n k who t after stop h e s =
    subst (λ (r : Ran TrialPlay). IsHalt r stop after)
    (sym (ap (λ m. takes m who t) (less n k h) ∙ takes_next (n - (k + 1)) who t e))
    (run_halts (one_take who t) (takes (n - (k + 1)) who) stop after s)

pub takes_end : (n k : ℕ) (who : Whose) (t : TrialPlay) → n ≤ k → takes (n - k) who t ≡ went t
unfolding takes
takes_end n k who t h = ap (λ m. takes m who t) (let z : n - k ≡ 0 = omega arith in z)

-- ---- the fields of a round

turns_next : (n k : ℕ) (t : TrialPlay) → k < n →
    field_turns (n - k) k t ≡ (turn (whose.Field k) t >>= field_turns (n - (k + 1)) (k + 1))
unfolding field_turns
turns_next n k t h = ap (λ m. field_turns m k t) (less n k h)

pub turns_go : (n k : ℕ) (t mid : TrialPlay) → k < n → turn (whose.Field k) t ≡ went mid →
    field_turns (n - k) k t ≡ field_turns (n - (k + 1)) (k + 1) mid
turns_go n k t mid h s =
    turns_next n k t h ∙ goes (turn (whose.Field k) t) mid (field_turns (n - (k + 1)) (k + 1)) s

pub turns_stop : (n k : ℕ) (t after : TrialPlay) (stop : Stop) → k < n → IsHalt (turn (whose.Field k) t) stop after →
    IsHalt (field_turns (n - k) k t) stop after
turns_stop n k t after stop h s =
    subst (λ (r : Ran TrialPlay). IsHalt r stop after) (sym (turns_next n k t h))
    (run_halts (turn (whose.Field k) t) (field_turns (n - (k + 1)) (k + 1)) stop after s)

pub turns_end : (n k : ℕ) (t : TrialPlay) → n ≤ k → field_turns (n - k) k t ≡ went t
unfolding field_turns
turns_end n k t h = ap (λ m. field_turns m k t) (let z : n - k ≡ 0 = omega arith in z)

-- ---- whether nothing is stored

pub quiet_begins : (t : TrialPlay) → is_due whose.Method t ≡ false →
    is_quiet t ≡ fields_quiet (length t.fields - 0) 0 t
unfolding is_quiet
quiet_begins t e =
    ap (λ (due : Bool). not due && fields_quiet (length t.fields) 0 t) e
    ∙ ap (λ m. fields_quiet m 0 t) (let z : length t.fields ≡ length t.fields - 0 = omega arith in z)

pub not_quiet : (t : TrialPlay) → is_due whose.Method t ≡ true → is_quiet t ≡ false
unfolding is_quiet
not_quiet t e = ap (λ (due : Bool). not due && fields_quiet (length t.fields) 0 t) e

quiet_next : (n k : ℕ) (t : TrialPlay) → k < n →
    fields_quiet (n - k) k t ≡ (not (is_due (whose.Field k) t) && fields_quiet (n - (k + 1)) (k + 1) t)
unfolding fields_quiet
quiet_next n k t h = ap (λ m. fields_quiet m k t) (less n k h)

pub quiet_goes : (n k : ℕ) (t : TrialPlay) → k < n → is_due (whose.Field k) t ≡ false →
    fields_quiet (n - k) k t ≡ fields_quiet (n - (k + 1)) (k + 1) t
quiet_goes n k t h e =
    quiet_next n k t h ∙ ap (λ (due : Bool). not due && fields_quiet (n - (k + 1)) (k + 1) t) e

pub quiet_stops : (n k : ℕ) (t : TrialPlay) → k < n → is_due (whose.Field k) t ≡ true →
    fields_quiet (n - k) k t ≡ false
quiet_stops n k t h e =
    quiet_next n k t h ∙ ap (λ (due : Bool). not due && fields_quiet (n - (k + 1)) (k + 1) t) e

pub quiet_ends : (n k : ℕ) (t : TrialPlay) → n ≤ k → fields_quiet (n - k) k t ≡ true
unfolding fields_quiet
quiet_ends n k t h = ap (λ m. fields_quiet m k t) (let z : n - k ≡ 0 = omega arith in z)

-- ---- rounds

pub rounds_none : (n : ℕ) (t : TrialPlay) → is_quiet t ≡ true → rounds n t ≡ went t
unfolding rounds
rounds_none zero t e = refl
rounds_none (suc n) t e = ap (λ (quiet : Bool). if quiet then went t else round t >>= rounds n) e

rounds_next : (n : ℕ) (t : TrialPlay) → is_quiet t ≡ false → rounds (suc n) t ≡ (round t >>= rounds n)
unfolding rounds
rounds_next n t e = ap (λ (quiet : Bool). if quiet then went t else round t >>= rounds n) e

pub rounds_go : (n k : ℕ) (t mid : TrialPlay) → k < n → is_quiet t ≡ false → round t ≡ went mid →
    rounds (n - k) t ≡ rounds (n - (k + 1)) mid
rounds_go n k t mid h e s =
    ap (λ m. rounds m t) (less n k h) ∙ rounds_next (n - (k + 1)) t e ∙ goes (round t) mid (rounds (n - (k + 1))) s

pub rounds_stop : (n k : ℕ) (t after : TrialPlay) (stop : Stop) → k < n → is_quiet t ≡ false →
    IsHalt (round t) stop after → IsHalt (rounds (n - k) t) stop after
rounds_stop n k t after stop h e s =
    subst (λ (r : Ran TrialPlay). IsHalt r stop after)
    (sym (ap (λ m. rounds m t) (less n k h) ∙ rounds_next (n - (k + 1)) t e))
    (run_halts (round t) (rounds (n - (k + 1))) stop after s)

pub rounds_end : (n k : ℕ) (t : TrialPlay) → n ≤ k → rounds (n - k) t ≡ went t
unfolding rounds
rounds_end n k t h = ap (λ m. rounds m t) (let z : n - k ≡ 0 = omega arith in z)

-- ---- fields that join

joins_next : (n k : ℕ) (t : TrialPlay) → k < n →
    fields_joined (n - k) t ≡ (field_joined t >>= fields_joined (n - (k + 1)))
unfolding fields_joined
joins_next n k t h = ap (λ m. fields_joined m t) (less n k h)

pub joins_go : (n k : ℕ) (t mid : TrialPlay) → k < n → field_joined t ≡ went mid →
    fields_joined (n - k) t ≡ fields_joined (n - (k + 1)) mid
joins_go n k t mid h s = joins_next n k t h ∙ goes (field_joined t) mid (fields_joined (n - (k + 1))) s

pub joins_stop : (n k : ℕ) (t after : TrialPlay) (stop : Stop) → k < n → IsHalt (field_joined t) stop after →
    IsHalt (fields_joined (n - k) t) stop after
joins_stop n k t after stop h s =
    subst (λ (r : Ran TrialPlay). IsHalt r stop after) (sym (joins_next n k t h))
    (run_halts (field_joined t) (fields_joined (n - (k + 1))) stop after s)

pub joins_end : (n k : ℕ) (t : TrialPlay) → n ≤ k → fields_joined (n - k) t ≡ went t
unfolding fields_joined
joins_end n k t h = ap (λ m. fields_joined m t) (let z : n - k ≡ 0 = omega arith in z)

-- ---- actions

pub actions_go : (time : ℕ) (action : Action) (more : List Action) (t mid : TrialPlay) →
    line_played time action t ≡ went mid →
    actions_played time (action ∷ more) t ≡ actions_played ((time + 1) % 2 ^ 32) more mid
unfolding actions_played
actions_go time action more t mid s =
    goes (line_played time action t) mid (actions_played ((time + 1) % 2 ^ 32) more) s

pub actions_stop : (time : ℕ) (action : Action) (more : List Action) (t after : TrialPlay) (stop : Stop) →
    IsHalt (line_played time action t) stop after → IsHalt (actions_played time (action ∷ more) t) stop after
unfolding actions_played
actions_stop time action more t after stop s =
    run_halts (line_played time action t) (actions_played ((time + 1) % 2 ^ 32) more) stop after s

pub actions_end : (time : ℕ) (t : TrialPlay) → actions_played time [] t ≡ went t
unfolding actions_played
actions_end time t = refl
