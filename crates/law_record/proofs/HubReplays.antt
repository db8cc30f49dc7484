-- The steps of a lawful history are legal, and stand within its limits: so its recorded session is read, and replays.
use Rattle.std.proofs.Common.{◌≡◌, ℕ, suc, ◌+◌, ◌*◌, ◌^◌, ◌<◌, ◌≤◌, ℤ, pos, negsuc, List, [], ◌∷◌, ◌++◌, length, map, reverse, Bool, true, false, cond, not, ◌&&◌, ◌||◌, Option, Some, None, refl, sym, ap, subst, ◌∙◌, arith}
use Rattle.std.specs.Prelude.{nat_le, nat_lt, option_map}
use Rattle.std.specs.List.{AllByRecursion}
use Rattle.std.proofs.lemmas.Bool.{lt-leb, le-ltb, lt-ltb}
use Rattle.std.proofs.lemmas.Int.{ints}
use Rattle.std.proofs.lemmas.List.{reverse-append}
use Rattle.std.proofs.lemmas.Option.{same_Some}
use Rattle.relay_model.specs.declared.act.EndCause.TheVariants.{Gone, Bad, Full}
use Rattle.broker_steps.specs.declared.limits.Limits.{Limits}
use Rattle.broker_steps.specs.declared.stamp.Stamp.{Stamp}
use Rattle.broker_steps.specs.declared.step.PeerStep.TheVariants as peers
use Rattle.broker_steps.specs.declared.step.ShellStep.{ShellStep}
use Rattle.broker_steps.specs.declared.step.ShellStep.TheVariants as shells
use Rattle.broker_steps.specs.declared.step.Step.{Step}
use Rattle.broker_steps.specs.declared.step.Step.TheVariants as steps
use Rattle.broker_steps.specs.Ranges.{IsShellStep}
use Rattle.session_text.specs.SessionGrammar.{HasLinkLine, HasStampedLine, IsStamp}
use Rattle.session_text.specs.Steps.{message_bytes, step_line}
use Rattle.session_text.specs.Words.{fits_i32}
use Rattle.wl_wire.specs.Spelling.{word_bytes}
use Rattle.wl_wire.specs.Texts.{IsBytes}
use Rattle.broker_model.specs.Ids.{Joined, peer_at}
use Rattle.broker_model.specs.Out.{Outgoing, stored, out_for}
use Rattle.broker_model.specs.Resolve.{past_of}
use Rattle.broker_model.specs.declared.journal.Entry.{Entry}
use Rattle.broker_model.specs.declared.journal.Entry.TheVariants as entries
use Rattle.broker_model.specs.Limits.{is_end, number_counted, weight_of, weight, is_full}
use Rattle.broker_model.specs.Settle.{history}
use Rattle.broker_model.specs.Stamps.{stamps}
use Rattle.broker_model.proofs.EachElement.{each_append, each_map}
use Rattle.broker_core.specs.Broker.{entry_of}
use Rattle.broker_core.specs.Taking.{lives}
use Rattle.broker_core.proofs.AliveAfterEntry.{counted_cons, weight_cons, same_settled}
use Rattle.hub_lock.specs.declared.step.OuterStep.{OuterStep}
use Rattle.hub_lock.specs.Histories.{History, entries_of, given_of, stamp_by}
use Rattle.hub_lock.specs.Lawful.{IsMadeBy, AreMadeBy, IsLawful}
use Rattle.hub_lock.specs.Steps.{IsInt, HasWidths, IsGiven, Finds, AreLegalEntries, HaveAuthors}
use Rattle.serve_record.specs.Recorded.{recorded}
use Rattle.seat_set.specs.Laws.{IsIdle, AreStored, CanPlay}
use Rattle.law_record.specs.HubLaw.{HubReplays, HubIsRead, HubLeadsBack}
use Rattle.law_record.specs.Legal.{quiet, journal_of, IsLegal, AreLegal, IsLegalSession}
use Rattle.law_record.specs.RecordedLines.{lines_in, IsReadAs}
use Rattle.law_record.specs.RecordLaws.{LeadsBack, ReplaysTo}
use Rattle.law_record.proofs.GeneratedLines.{IsByte, AreBytes, bytes_are, word_is}
use Rattle.law_record.proofs.LinesRead.{recorded_is_read}
use Rattle.law_record.proofs.LinesLead.{recorded_leads_back}
use Rattle.law_record.proofs.RecordedReplays.{recorded_replays}

-- the step of an entry that follows from no other
abbrev step_for : Entry → Step
step_for (entries.Join role) = steps.Join role
step_for (entries.Message q id opcode body) = steps.Peer q (peers.Message id opcode body)
step_for (entries.Tokens q tokens) = steps.Peer q (peers.Tokens tokens)
step_for (entries.BadSize q head) = steps.Peer q (peers.BadSize head)
step_for (entries.End q cause) = steps.Peer q peers.Gone
step_for (entries.Shell step) = steps.Shell step
step_for (entries.Took q n) = steps.Take q n

-- ---- its entries are those of its steps

abbrev IsOfStep : Entry → Type 0
IsOfStep e = entry_of (step_for e) ≡ e

of_step : (h : History) (n : ℕ) (e : Entry) → IsMadeBy h n e → IsOfStep e
of_step h n (entries.Join role) made = refl
of_step h n (entries.Message q id opcode body) made = refl
of_step h n (entries.Tokens q tokens) made = refl
of_step h n (entries.BadSize q head) made = refl
of_step h n (entries.End q Gone) made = refl
of_step h n (entries.End q Bad) made = absurd made
of_step h n (entries.End q Full) made = absurd made
of_step h n (entries.Shell step) made = refl
of_step h n (entries.Took q bytes) made = refl

each_of_step : (h rest : History) → AreMadeBy h rest → AllByRecursion (λ (s : ℕ × OuterStep). IsOfStep s.1.entry) rest
each_of_step h [] made = tt
each_of_step h (s ∷ rest) made = (of_step h s.0 s.1.entry made.0, each_of_step h rest made.1)

each_reversed : {A : Type 0} (P : A → Type 0) (xs : List A) → AllByRecursion P xs → AllByRecursion P (reverse xs)
each_reversed P [] h = tt
each_reversed P (x ∷ xs) h =
    subst (AllByRecursion P) (sym (reverse-append (x ∷ []) xs))
    (each_append P (reverse xs) (x ∷ []) (each_reversed P xs h.1) (h.0, tt))

same_entries : (all : List Entry) → AllByRecursion IsOfStep all → map entry_of (map step_for all) ≡ all
same_entries [] h = refl
same_entries (e ∷ rest) h =
    ap (λ (x : Entry). x ∷ map entry_of (map step_for rest)) h.0
    ∙ ap (λ (xs : List Entry). e ∷ xs) (same_entries rest h.1)

all_of_step : (h : History) → AreMadeBy h h → AllByRecursion IsOfStep (entries_of h)
all_of_step h made =
    each_reversed IsOfStep (map (λ (s : ℕ × OuterStep). s.1.entry) h)
    (each_map IsOfStep (λ (s : ℕ × OuterStep). s.1.entry) h (each_of_step h h made))

-- ---- lines give them again

byte_each : (bytes : List ℕ) → IsBytes bytes → AreBytes bytes
byte_each [] h = tt
byte_each (x ∷ xs) h = (h 0, byte_each xs (λ i. h (suc i)))

-- the bytes of a message are bytes
message_is : (id opcode : ℕ) (body : List ℕ) → IsBytes body → IsBytes (message_bytes id opcode body)
message_is id opcode body h =
    let second : List ℕ = word_bytes (65536 * (8 + length body) + opcode) in
    bytes_are (message_bytes id opcode body)
    (each_append IsByte (word_bytes id) (second ++ body) (word_is id)
    (each_append IsByte second body (word_is (65536 * (8 + length body) + opcode)) (byte_each body h)))

fits_word : (z : ℤ) → IsInt z → fits_i32 z ≡ true
fits_word (pos n) e = let lt : n < 2 ^ 31 = omega (arith, ints) in lt-ltb n (2 ^ 31) lt
fits_word (negsuc n) e = let lt : n < 2 ^ 31 = omega (arith, ints) in lt-ltb n (2 ^ 31) lt

shell_line : (step : ShellStep) → HasWidths step → IsShellStep step → HasLinkLine step
shell_line (shells.Focus p i) w h = w
shell_line shells.Unfocus w h = tt
shell_line (shells.Area p i rect) w h =
    (w.0, w.1, (fits_word rect.x w.2, fits_word rect.y w.3, h.0, h.1))
shell_line (shells.Screen size) w h = h
shell_line (shells.Key time key state) w h = (w.0, w.1, h)
shell_line (shells.Mods mods) w h = w
shell_line (shells.Keymap keymap) w h = w
shell_line (shells.Repeat repeat) w h = (fits_word repeat.rate w.0, fits_word repeat.delay w.1)
shell_line (shells.At moment) w h = w

line_given : (e : Entry) → IsGiven e → HasStampedLine (step_line (step_for e))
line_given (entries.Join role) h = tt
line_given (entries.Message q id opcode body) h =
    let few = h.4.0 in (h.0, (message_is id opcode body h.3, omega arith, omega (arith, few)))
line_given (entries.Tokens q tokens) h = (h.0, (h.1, h.2))
line_given (entries.BadSize q head) h =
    let eight = h.3 in (h.0, (h.1, omega (arith, eight), omega (arith, eight)))
line_given (entries.End q cause) h = h
line_given (entries.Shell step) h = shell_line step h.0 h.1
line_given (entries.Took q bytes) h = h

idle : (journal : List Entry) (q : ℕ) → lives journal q ≡ true → IsIdle (quiet journal) q
idle journal q l = record { live = l; read = refl }

module _ (limits : Limits) (journal : List Entry) where
  stored_by : (q bytes : ℕ) (o : Option Joined) (out : Outgoing) → peer_at (past_of journal) q ≡ o
      → option_map (λ (peer : Joined). out_for limits.store journal peer.label) o ≡ Some out
      → 1 ≤ bytes → bytes ≤ length (stored out) → AreStored limits (quiet journal) q bytes
  stored_by q bytes None out joined is some enough = cc
  stored_by q bytes (Some peer) out joined is some enough = record {
    peer = peer;
    joined = joined;
    some = some;
    enough = subst (λ (x : Outgoing). bytes ≤ length (stored x)) (sym (same_Some _ out is)) enough;
  }

  can_play : (e : Entry) → IsGiven e → Finds limits journal e → CanPlay limits (step_for e) (quiet journal)
  can_play (entries.Join role) h few = few
  can_play (entries.Message q id opcode body) h l = (idle journal q l, (h.1, h.2, h.4))
  can_play (entries.Tokens q tokens) h l = (idle journal q l, tt)
  can_play (entries.BadSize q head) h l = (idle journal q l, (h.2, h.3))
  can_play (entries.End q cause) h l = (idle journal q l, tt)
  can_play (entries.Shell step) h l = tt
  can_play (entries.Took q bytes) h s =
      stored_by q bytes (peer_at (past_of journal) q) s.out refl s.is h.1.0 s.enough

-- ---- none of them met a full journal, where the whole is within its limits

not_full : (limits : Limits) (e : Entry) (older : List Entry) → number_counted (e ∷ older) ≤ limits.entries →
    weight (e ∷ older) ≤ limits.weight → is_full limits older e ≡ false
not_full limits e older counted light = by (is_end e) refl
  where
    many : Bool
    many = nat_le limits.entries (number_counted older)

    heavy : Bool
    heavy = nat_lt limits.weight (weight older + weight_of e)

    by : (b : Bool) → is_end e ≡ b → (not b && (many || heavy)) ≡ false
    by true h = refl
    by false h =
        let one : number_counted (e ∷ older) ≡ 1 + number_counted older =
        counted_cons e older ∙ ap (λ (b : Bool). cond (not b) 1 0 + number_counted older) h in
        let weighs = weight_cons e older in
        ap (λ (b : Bool). b || heavy) (lt-leb limits.entries (number_counted older) (omega (arith, one, counted)))
        ∙ le-ltb limits.weight (weight older + weight_of e) (omega (arith, weighs, light))

are_legal : (limits : Limits) (all : List Entry) → AllByRecursion IsOfStep all → AreLegalEntries limits all
    → number_counted (history limits.store all) ≤ limits.entries → weight (history limits.store all) ≤ limits.weight
    → AreLegal limits (map step_for all)
are_legal limits [] same legal counted light = tt
are_legal limits (e ∷ older) same legal counted light =
    let step : Step = step_for e in
    let journal : List Entry = history limits.store older in
    let settled = same_settled limits.store (e ∷ journal) in
    let counted_same = settled.counted in
    let weighs_same = settled.weighs in
    let counted_here : number_counted (e ∷ journal) ≤ limits.entries = omega (arith, counted_same, counted) in
    let light_here : weight (e ∷ journal) ≤ limits.weight = omega (arith, weighs_same, light) in
    let one = counted_cons e journal in
    let weighs = weight_cons e journal in
    let here : IsLegal limits journal step = record {
      line = line_given e legal.0.given;
      can = can_play limits journal e legal.0.given legal.0.finds;
      fits = ap (is_full limits journal) same.0 ∙ not_full limits e journal counted_here light_here;
    } in (
      subst (λ (j : List Entry). IsLegal limits j step)
          (sym (ap (history limits.store) (same_entries older same.1))) here,
      are_legal limits older same.1 legal.1 (omega (arith, one, counted_here)) (omega (arith, weighs, light_here)),
    )

-- ---- the stamps that calls gave

authors_given : (h : History) → HaveAuthors h → AllByRecursion (λ (s : ℕ × OuterStep). IsStamp (stamp_by s.0)) h
authors_given [] known = tt
authors_given (s ∷ rest) known =
    (let small = known.0 in (omega arith, omega (arith, small)), authors_given rest known.1)

are_stamps : (h : History) → HaveAuthors h → AllByRecursion IsStamp (given_of h)
are_stamps h known =
    each_reversed IsStamp (map (λ (s : ℕ × OuterStep). stamp_by s.0) h)
    (each_map IsStamp (λ (s : ℕ × OuterStep). stamp_by s.0) h (authors_given h known))

-- ---- the laws

abbrev steps_of : History → List Step
steps_of h = map step_for (entries_of h)

-- the steps of a lawful history make its journal
same_journal : (limits : Limits) (h : History) → IsLawful limits h →
    journal_of limits (steps_of h) ≡ history limits.store (entries_of h)
same_journal limits h lawful =
    ap (history limits.store) (same_entries (entries_of h) (all_of_step h lawful.made_by))

-- and lines can give them again
session_of : (limits : Limits) (h : History) → IsLawful limits h → IsLegalSession limits (steps_of h) (given_of h)
session_of limits h lawful = record {
  limited = lawful.limited;
  legal = are_legal limits (entries_of h) (all_of_step h lawful.made_by) lawful.legal.entries lawful.shared.counted
      lawful.shared.light;
  stamped = are_stamps h lawful.legal.authors;
}

pub hub_replays : HubReplays
hub_replays limits h lawful =
    subst (λ (j : List Entry). ReplaysTo limits (recorded limits j (stamps j (given_of h))) j)
    (same_journal limits h lawful)
    (recorded_replays limits (steps_of h) (given_of h) (session_of limits h lawful))

pub hub_is_read : HubIsRead
hub_is_read limits h lawful =
    subst (λ (j : List Entry). let made : List Stamp = stamps j (given_of h) in
    IsReadAs limits (recorded limits j made) (lines_in j made)) (same_journal limits h lawful)
    (recorded_is_read limits (steps_of h) (given_of h) (session_of limits h lawful))

pub hub_leads_back : HubLeadsBack
hub_leads_back limits h lawful =
    subst (λ (j : List Entry). LeadsBack limits j (stamps j (given_of h))) (same_journal limits h lawful)
    (recorded_leads_back limits (steps_of h) (given_of h) (session_of limits h lawful))
