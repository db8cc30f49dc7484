-- What holds from one sending of the method to the next, each phase of a trial that doesn't stop keeps.
use Rattle.std.proofs.Common.{◌≡◌, ℕ, zero, suc, ◌+◌, Bool, true, false, List, [], ◌∷◌, ◌++◌, length, ap, subst, arith}
use Rattle.std.specs.Prelude.{if◌then◌else◌, nat_le}
use Rattle.relay_model.specs.declared.role.Role.TheVariants.{App}
use Rattle.broker_steps.specs.declared.step.ShellStep.{ShellStep}
use Rattle.broker_steps.specs.declared.step.ShellStep.TheVariants as shell
use Rattle.wl_wire.specs.Messages.{id_of, opcode_of, body_of, messages}
use Rattle.broker_model.specs.declared.journal.Entry.{Entry}
use Rattle.broker_model.specs.declared.journal.Entry.TheVariants as entries
use Rattle.broker_model.specs.Limits.{is_full}
use Rattle.broker_model.specs.Settle.{number_alive}
use Rattle.broker_model.specs.Stamps.{no_stamp}
use Rattle.broker_core.specs.Broker.{with_step}
use Rattle.broker_core.specs.Taking.{lives}
use Rattle.trial_run.specs.declared.whose.Whose.{Whose}
use Rattle.trial_run.specs.declared.whose.Whose.TheVariants as whose
use Rattle.trial_run.specs.Ran.{Ran, went, halted, ◌>>=◌}
use Rattle.trial_run.specs.Steps.{stepped, joined, message_entry, messages_sent, has_stored, next_bytes}
use Rattle.trial_run.specs.Play.{FieldPlay, TrialPlay, new_field, number_of, to_send, is_paused, hears, sent}
use Rattle.trial_run.specs.Rounds.{with_broker, sends_waiting, sends, took, one_take, takes, turn, field_turns, round, is_quiet, rounds}
use Rattle.trial_run.specs.Lines.{shell_says, pressed}
use Rattle.trial_run.specs.Trial.{field_joined, fields_joined}
use Rattle.broker_telling.specs.Sayable.{IsWord}
use Rattle.trial_laws.proofs.PhasesKeep.{take_entry, with_entry}
use Rattle.trial_laws.proofs.TakesCount.{both_went, same_went}
use Rattle.trial_laws.proofs.TrialSteps.{IsOfShell}

-- what a phase leads to, where it doesn't stop
abbrev pub Goes : (TrialPlay → Type 0) → (TrialPlay → Ran TrialPlay) → Type 0
Goes P next = (t end : TrialPlay) → P t → next t ≡ went end → P end

pub in_turn : (P : TrialPlay → Type 0) (r : Ran TrialPlay) (next : TrialPlay → Ran TrialPlay) (end : TrialPlay) →
    (r >>= next) ≡ went end → ((mid : TrialPlay) → r ≡ went mid → P mid) → Goes P next → P end
in_turn P r next end e h k =
    let both = both_went r next end e in k both.mid end (h both.mid both.first) both.second

-- a step that isn't the method's: of another peer, or of the shell, or a join
abbrev pub IsOthers : Entry → Type 0
IsOthers (entries.Message q id opcode body) = q ≡ 1 → ⊥
IsOthers (entries.Shell step) = IsOfShell step
IsOthers (entries.Join role) = Unit {0}
IsOthers _ = ⊥

-- what is kept by others' steps, and by what is done with fields
pub record IsLeft (P : TrialPlay → Type 0) : Type 0 where
  pub others : (e : Entry) (t : TrialPlay) → IsOthers e → P t → P (with_entry e t)
  pub fields : (xs : List FieldPlay) (t : TrialPlay) → P t → P (record t { fields = xs })

-- and by others' takes, and by each take of the method with what it sends then
pub record IsCarried (P : TrialPlay → Type 0) : Type 0 where
  pub left : IsLeft P
  pub taking : (k : ℕ) (t : TrialPlay) → P t → P (with_entry (take_entry (whose.Field k) t) t)
  pub method : Goes P (one_take whose.Method)

-- where a take doesn't stop, it is made
pub took_is : (who : Whose) (t mid : TrialPlay) → took who t ≡ went mid → with_entry (take_entry who t) t ≡ mid
unfolding took stepped
took_is who t mid e = by (is_full t.broker.limits t.broker.journal (take_entry who t)) e
  where
    by : (full : Bool) →
        with_broker t (if full then halted t.broker else went (with_step (take_entry who t) no_stamp t.broker))
        ≡ went mid →
        with_entry (take_entry who t) t ≡ mid
    by true q = absurd (let no : true ≡ false = ap (λ (r : Ran TrialPlay). r.is_full) q in cc)
    by false q = ap (λ (r : Ran TrialPlay). r.now) q

module _ (P : TrialPlay → Type 0) (left : IsLeft P) where
  -- ---- what fields send

  others_say : (q : ℕ) (ms : List (List ℕ)) (t : TrialPlay) → (q ≡ 1 → ⊥) → P t →
      P (record t { broker = (messages_sent q ms t.broker).now })
  unfolding messages_sent stepped
  others_say q [] t d h = h
  others_say q (m ∷ ms) t d h =
      by (lives t.broker.journal q) (is_full t.broker.limits t.broker.journal (message_entry q m))
      (λ u k. others_say q ms u d k)
    where
      by : (live full : Bool) →
          ((u : TrialPlay) → P u → P (record u { broker = (messages_sent q ms u.broker).now })) →
          P (record t {
            broker = (if live then (if full then halted t.broker
                else went (with_step (message_entry q m) no_stamp t.broker)) >>= messages_sent q ms
                else went t.broker).now;
          })
      by false full later = h
      by true true later = h
      by true false later =
          later (with_entry (message_entry q m) t)
          (left.others (entries.Message q (id_of m) (opcode_of m) (body_of m)) t d h)

  pub field_sends : (k : ℕ) → Goes P (sends (whose.Field k))
  unfolding sends sends_waiting
  field_sends k t end h e =
      let both = both_went (sends_waiting (whose.Field k) t) (λ now. went (sent (whose.Field k) now)) end e in
      let said : P (record t {
        broker = (messages_sent (k + 2) (messages (to_send (whose.Field k) t)) t.broker).now;
      }) = others_say (k + 2) (messages (to_send (whose.Field k) t)) t (λ q. absurd (omega arith)) h in
      let mid : P both.mid = subst (λ (r : Ran TrialPlay). P r.now) both.first said in
      subst P (same_went (sent (whose.Field k) both.mid) end both.second)
      (left.fields (sent (whose.Field k) both.mid).fields both.mid mid)

  -- ---- what the shell says

  pub shell_goes : (says : ShellStep) → IsOfShell says → Goes P (shell_says says)
  unfolding shell_says stepped
  shell_goes says s t end h e = by (is_full t.broker.limits t.broker.journal (entries.Shell says)) e
    where
      by : (full : Bool) →
          with_broker t (if full then halted t.broker else went (with_step (entries.Shell says) no_stamp t.broker))
          ≡ went end → P end
      by true q = absurd (let no : true ≡ false = ap (λ (r : Ran TrialPlay). r.is_full) q in cc)
      by false q = subst P (ap (λ (r : Ran TrialPlay). r.now) q) (left.others (entries.Shell says) t s h)

  pub pressed_goes : (time key : ℕ) → IsWord time → IsWord key → Goes P (pressed time key)
  unfolding pressed
  pressed_goes time key w k t end h e =
      in_turn P (shell_says (shell.Key time key 1) t) (shell_says (shell.Key time key 0)) end e
      (λ mid f. shell_goes (shell.Key time key 1) (w, k, omega arith) t mid h f)
      (shell_goes (shell.Key time key 0) (w, k, omega arith))

  -- ---- joins of fields

  joined_goes : Goes P (λ t. with_broker t (joined App t.broker))
  unfolding joined stepped
  joined_goes t end h e =
      by (nat_le 64 (number_alive t.broker.journal)) (is_full t.broker.limits t.broker.journal (entries.Join App)) e
    where
      by : (many full : Bool) →
          with_broker t (if many then went t.broker
          else (if full then halted t.broker else went (with_step (entries.Join App) no_stamp t.broker)))
          ≡ went end → P end
      by true full q = subst P (ap (λ (r : Ran TrialPlay). r.now) q) h
      by false true q = absurd (let no : true ≡ false = ap (λ (r : Ran TrialPlay). r.is_full) q in cc)
      by false false q = subst P (ap (λ (r : Ran TrialPlay). r.now) q) (left.others (entries.Join App) t tt h)

  field_goes : Goes P field_joined
  unfolding field_joined
  field_goes t end h e =
      let next : TrialPlay → Ran TrialPlay =
      λ now. sends (whose.Field (length t.fields)) (record now { fields = now.fields ++ new_field ∷ [] }) in
      let both = both_went (with_broker t (joined App t.broker)) next end e in
      let mid : P both.mid = joined_goes t both.mid h both.first in
      field_sends (length t.fields)
      (record both.mid { fields = both.mid.fields ++ new_field ∷ [] }) end
      (left.fields (both.mid.fields ++ new_field ∷ []) both.mid mid) both.second

  pub fields_go : (n : ℕ) → Goes P (fields_joined n)
  unfolding fields_joined
  fields_go zero t end h e = subst P (same_went t end e) h
  fields_go (suc n) t end h e =
      in_turn P (field_joined t) (fields_joined n) end e (λ mid f. field_goes t mid h f) (fields_go n)

-- ---- rounds

module _ (P : TrialPlay → Type 0) (kept : IsCarried P) where
  field_take : (k : ℕ) → Goes P (one_take (whose.Field k))
  unfolding one_take
  field_take k t end h e =
      let who : Whose = whose.Field k in
      let bytes : List ℕ = next_bytes (k + 2) t.broker in
      let both = both_went (took who t) (λ now. sends who (hears who bytes now)) end e in
      let mid : P both.mid = subst P (took_is who t both.mid both.first) (kept.taking k t h) in
      field_sends P kept.left k (hears who bytes both.mid) end
      (kept.left.fields (hears who bytes both.mid).fields both.mid mid)
      both.second

  one_take_goes : (who : Whose) → Goes P (one_take who)
  one_take_goes whose.Method = kept.method
  one_take_goes (whose.Field k) = field_take k

  pub takes_go : (n : ℕ) (who : Whose) → Goes P (takes n who)
  unfolding takes
  takes_go zero who t end h e = subst P (same_went t end e) h
  takes_go (suc n) who t end h e = by (has_stored (number_of who) t.broker) e (takes_go n who)
    where
      by : (some : Bool) → (if some then one_take who t >>= takes n who else went t) ≡ went end →
          Goes P (takes n who) → P end
      by true q k = in_turn P (one_take who t) (takes n who) end q (λ mid f. one_take_goes who t mid h f) k
      by false q k = subst P (same_went t end q) h

  pub turn_goes : (who : Whose) → Goes P (turn who)
  unfolding turn
  turn_goes who t end h e = by (is_paused who t) e
    where
      by : (paused : Bool) → (if paused then went t else takes t.most who t) ≡ went end → P end
      by true q = subst P (same_went t end q) h
      by false q = takes_go t.most who t end h q

  pub field_turns_go : (n k : ℕ) → Goes P (field_turns n k)
  unfolding field_turns
  field_turns_go zero k t end h e = subst P (same_went t end e) h
  field_turns_go (suc n) k t end h e =
      in_turn P (turn (whose.Field k) t) (field_turns n (k + 1)) end e (λ mid f. turn_goes (whose.Field k) t mid h f)
      (field_turns_go n (k + 1))

  pub round_goes : Goes P round
  unfolding round
  round_goes t end h e =
      in_turn P (turn whose.Method t) (field_turns (length t.fields) 0) end e
      (λ mid f. turn_goes whose.Method t mid h f) (field_turns_go (length t.fields) 0)

  pub rounds_go : (n : ℕ) → Goes P (rounds n)
  unfolding rounds
  rounds_go zero t end h e = subst P (same_went t end e) h
  rounds_go (suc n) t end h e = by (is_quiet t) e (rounds_go n)
    where
      by : (quiet : Bool) → (if quiet then went t else round t >>= rounds n) ≡ went end → Goes P (rounds n) → P end
      by true q k = subst P (same_went t end q) h
      by false q k = in_turn P (round t) (rounds n) end q (λ mid f. round_goes t mid h f) k
