-- What any bytes show as a script: texts of logs that have the batches which are relayed.
use Rattle.std.proofs.Common.{◌≡◌, ℕ, zero, suc, ◌+◌, ◌-◌, ◌≤◌, ◌<◌, Bool, true, false, List, [], ◌∷◌, ◌++◌, length, take, Option, Some, None, refl, sym, ap, subst, ◌∙◌, arith, append_assoc}
use Rattle.std.specs.Prelude.{◌==◌, All}
use Rattle.std.specs.List.{AllByRecursion, Contains, slice_get}
use Rattle.std.proofs.lemmas.Bool.{eqb-true, eqb-false}
use Rattle.std.proofs.lemmas.List.{append-nil}
use Rattle.std.proofs.lemmas.List.Elements.{All-head, All-tail}
use Rattle.std.proofs.lemmas.Option.{same_Some}
use Rattle.broker_steps.specs.declared.limits.Limits.{Limits}
use Rattle.relay_model.specs.declared.act.EndCause.TheVariants.{Full}
use Rattle.client_side.specs.FieldLog.{text_of}
use Rattle.trial_script.specs.declared.action.Action.{Action}
use Rattle.trial_script.specs.declared.action.Action.TheVariants as actions
use Rattle.trial_script.specs.declared.script.Script.{Script}
use Rattle.trial_script.specs.Grammar.{IsAction}
use Rattle.trial_script.specs.Scripts.{field_named, script_of, IsScript}
use Rattle.trial_script.proofs.ScriptsRead.{script_holds}
use Rattle.broker_model.specs.declared.journal.Entry.TheVariants.{End}
use Rattle.broker_model.specs.Ids.{peer_at}
use Rattle.broker_model.specs.Resolve.{past_of}
use Rattle.trial_run.specs.Ran.{Ran, went}
use Rattle.trial_run.specs.Play.{FieldPlay, TrialPlay, text_in}
use Rattle.trial_run.specs.Lines.{show_line}
use Rattle.trial_run.specs.Trial.{played_with, trial_played}
use Rattle.trial_laws.specs.FieldLogs.{told_in, trial_to, line_of, line_at, lines_to}
use Rattle.trial_laws.specs.RelayedBatches.{batches_in, IsFieldOf, HasMadeField}
use Rattle.trial_laws.specs.RelayedAsBatches.{HasByteTexts, IsOfBytes, batches_of, IsBatched}
use Rattle.trial_laws.specs.ShownTexts.{is_paused_behind, IsShownText, ShownTextsAreBatches}
use Rattle.trial_laws.proofs.ShownLines.{shown_in_turn}
use Rattle.trial_laws.proofs.TextsRelayed.{none_in_front}
use Rattle.trial_laws.proofs.FieldsThere.{fields_are_made}
use Rattle.trial_laws.proofs.TextsBatched.{texts_batched, unpaused_have_all_relayed}
use Rattle.trial_laws.proofs.ScriptsOfBytes.{scripts_of_bytes}
use Rattle.trial_laws.proofs.NoneRelayedYet.{none_relayed_yet}
use Rattle.trial_laws.proofs.PausesKept.{IsPausedSo, paused_so}

-- ---- a script and its front

-- so many of its actions
abbrev front_of : ℕ → Script → Script
front_of n script = record script { actions = take n script.actions }

each_in_front : {X : Type 0} (P : X → Type 0) (n : ℕ) (xs : List X) → AllByRecursion P xs →
    AllByRecursion P (take n xs)
each_in_front P zero xs h = tt
each_in_front P (suc n) [] h = tt
each_in_front P (suc n) (x ∷ xs) h = (h.0, each_in_front P n xs h.1)

front_bytes : (n : ℕ) (script : Script) → IsOfBytes script → IsOfBytes (front_of n script)
front_bytes n script h =
    record { typist = h.typist; actions = each_in_front HasByteTexts n script.actions h.actions }

-- what holds of all actions holds of each
at_place : {X : Type 0} (P : X → Type 0) (xs : List X) (n : ℕ) (x : X) → All P xs → slice_get xs n ≡ Some x → P x
at_place P [] n x all is = (let no : slice_get [] n ≡ Some x = is in cc)
at_place P (y ∷ ys) zero x all is = subst P (same_Some y x is) (All-head P y ys all)
at_place P (y ∷ ys) (suc n) x all is = at_place P ys n x (All-tail P y ys all) is

within : {X : Type 0} (xs : List X) (n : ℕ) (x : X) → slice_get xs n ≡ Some x → n < length xs
within [] n x e = (let no : slice_get [] n ≡ Some x = e in cc)
within (y ∷ ys) zero x e = omega arith
within (y ∷ ys) (suc n) x e = (let l = within ys n x e in omega arith)

-- where one has an action behind the first ones, these begin with one
record Begins (all : List Action) : Type 0 where
  first : Action
  more : List Action
  are : all ≡ first ∷ more

begins : (n : ℕ) (all : List Action) (action : Action) → slice_get all (suc n) ≡ Some action →
    Begins (take (suc n) all)
begins n [] action e = (let no : slice_get [] (suc n) ≡ Some action = e in cc)
begins n (x ∷ xs) action e = record { first = x; more = take n xs; are = refl }

-- ---- what is shown

-- what the first actions show stands before what those behind them show
record IsBefore (limits : Limits) (script : Script) (n m : ℕ) : Type 0 where
  later : List ℕ
  is : lines_to m limits script ≡ lines_to n limits script ++ later

lines_before : (limits : Limits) (script : Script) (n more : ℕ) → IsBefore limits script n (more + n)
lines_before limits script n zero =
    let same : zero + n ≡ n = omega arith in
    record { later = []; is = ap (λ m. lines_to m limits script) same ∙ sym (append-nil (lines_to n limits script)) }
lines_before limits script n (suc more) =
    let h : IsBefore limits script n (more + n) = lines_before limits script n more in
    let line : List ℕ = line_at (slice_get script.actions (more + n)) (trial_to (more + n) limits script) in
    let same : suc more + n ≡ suc (more + n) = omega arith in
    record {
      later = h.later ++ line;
      is =
          ap (λ m. lines_to m limits script) same
          ∙ ap (λ (l : List ℕ). l ++ line) h.is ∙ append_assoc (lines_to n limits script) h.later line;
    }

-- where no field is, no action shows one
abbrev IsActionOf : ℕ → Action → Type 0
IsActionOf fields action = IsAction action × (field_named action ≤ fields)

shows_none : (fields : ℕ) (action : Action) (r : Ran TrialPlay) → fields ≡ 0 → IsActionOf fields action →
    line_of action r ≡ []
shows_none fields (actions.Show f) r none h = absurd (let some : 1 ≤ f = h.0.0 in let few = h.1 in omega arith)
shows_none fields _ r none h = refl

line_none : (fields : ℕ) (o : Option Action) (r : Ran TrialPlay) → fields ≡ 0 →
    ((action : Action) → o ≡ Some action → IsActionOf fields action) → line_at o r ≡ []
line_none fields None r none h = refl
line_none fields (Some action) r none h = shows_none fields action r none (h action refl)

lines_none : (limits : Limits) (script : Script) (m : ℕ) → script.fields ≡ 0 → IsScript script →
    lines_to m limits script ≡ []
lines_none limits script zero none h = refl
lines_none limits script (suc m) none h =
    ap (λ (l : List ℕ). l ++ line_at (slice_get script.actions m) (trial_to m limits script))
    (lines_none limits script m none h)
    ∙ line_none script.fields (slice_get script.actions m) (trial_to m limits script) none
    (λ action is. at_place (IsActionOf script.fields) script.actions m action h.actions is)

unplayed_shows : (limits : Limits) (script : Script) → (script.fields == 0) ≡ true →
    (trial_played limits script).now.shown ≡ []
unfolding played_with
unplayed_shows limits script none = rw none refl

-- what a script shows is a line for each show in turn, also where it has no field
all_lines : (limits : Limits) (script : Script) → IsScript script →
    (trial_played limits script).now.shown ≡ lines_to (length script.actions) limits script
all_lines limits script h = by (script.fields == 0) refl
  where
    by : (none : Bool) → (script.fields == 0) ≡ none →
        (trial_played limits script).now.shown ≡ lines_to (length script.actions) limits script
    by true e =
        unplayed_shows limits script e
        ∙ sym (lines_none limits script (length script.actions) (eqb-true script.fields 0 e) h)
    by false e = shown_in_turn limits script (let some = eqb-false script.fields 0 e in omega arith)

-- ---- all batches

-- a field that isn't paused has all, also before the first action
has_all : (limits : Limits) (script : Script) (n : ℕ) (shows : Action) (t : TrialPlay) (k : ℕ) (field : FieldPlay)
    (object : ℕ) → slice_get script.actions n ≡ Some shows → 1 ≤ script.fields → script.fields ≤ 16 →
    trial_to n limits script ≡ went t → slice_get t.fields k ≡ Some field → IsOfBytes (front_of n script) →
    (b : IsBatched limits (front_of n script) t.broker.journal k field) →
    IsFieldOf t.broker.journal b.folded.peer.label object → field.is_paused ≡ false →
    (Contains t.broker.journal (End (k + 2) Full) → ⊥) →
    batches_in (told_in b.folded.log) ≡ batches_of t.broker.journal object
has_all limits script zero shows t k field object at some few e is texts b h going lives =
    let nothing : batches_of t.broker.journal object ≡ [] = none_relayed_yet limits script t object e in
    none_in_front (batches_in (told_in b.folded.log)) (batches_of t.broker.journal object) nothing (b.batches object h)
    ∙ sym nothing
has_all limits script (suc n) shows t k field object at some few e is texts b h going lives =
    let begun : Begins (take (suc n) script.actions) = begins n script.actions shows at in
    unpaused_have_all_relayed limits (front_of (suc n) script) begun.first begun.more t k field begun.are some few e is
    texts going lives b.folded object h

-- ---- the law

shown_text : (limits : Limits) (bytes : List ℕ) (n f : ℕ) (t : TrialPlay) →
    slice_get (script_of bytes).actions n ≡ Some (actions.Show f) → trial_to n limits (script_of bytes) ≡ went t →
    IsShownText limits bytes n f t
shown_text limits bytes n f t at e =
    let script : Script = script_of bytes in
    let holds : IsScript script = script_holds bytes in
    let fits : IsActionOf script.fields (actions.Show f) =
    at_place (IsActionOf script.fields) script.actions n (actions.Show f) holds.actions at in
    let some : 1 ≤ f = fits.0.0 in
    let known : f ≤ script.fields = fits.1 in
    let few : script.fields ≤ 16 = holds.fields in
    let k : ℕ = f - 1 in
    let texts : IsOfBytes (front_of n script) = front_bytes n script (scripts_of_bytes bytes) in
    let so : IsPausedSo k (is_paused_behind (take n script.actions) k) t.fields =
    paused_so limits (front_of n script) t k (omega arith) e in
    let b : IsBatched limits (front_of n script) t.broker.journal k so.field =
    texts_batched limits (front_of n script) t k so.field few e so.is texts in
    let number : k + 2 ≡ f + 1 = omega arith in
    let less : n < length script.actions = within script.actions n (actions.Show f) at in
    let rest : IsBefore limits script (suc n) ((length script.actions - suc n) + suc n) =
    lines_before limits script (suc n) (length script.actions - suc n) in
    let all : (length script.actions - suc n) + suc n ≡ length script.actions = omega arith in
    let line : line_at (slice_get script.actions n) (trial_to n limits script) ≡ show_line f (text_of b.folded.log) =
    ap (λ (o : Option Action). line_at o (trial_to n limits script)) at
    ∙ ap (λ (r : Ran TrialPlay). line_of (actions.Show f) r) e
    ∙ ap (λ (o : Option FieldPlay). show_line f (text_in o)) so.is ∙ ap (show_line f) b.folded.text in
    record {
      named = (some, known);
      log = b.folded.log;
      later = rest.later;
      shown =
          all_lines limits script holds ∙ ap (λ m. lines_to m limits script) (sym all) ∙ rest.is
          ∙ ap (λ (l : List ℕ). lines_to n limits script ++ l ++ rest.later) line;
      own = b.folded.own;
      peer = b.folded.peer;
      joined = subst (λ q. peer_at (past_of t.broker.journal) q ≡ Some b.folded.peer) number b.folded.joined;
      made =
          subst (λ q. HasMadeField t.broker.journal q b.folded.peer.label) number
          (fields_are_made limits (front_of n script) t k so.field b.folded.peer few e so.is b.folded.joined);
      told = b.folded.told;
      front = b.batches;
      all = λ object h going lives.
          has_all limits script n (actions.Show f) t k so.field object at (omega arith) few e so.is texts b h
          (so.paused ∙ going)
          (λ ended. lives (subst (λ q. Contains t.broker.journal (End q Full)) number ended));
      none = b.none;
    }

pub shown_texts_are_batches : ShownTextsAreBatches
shown_texts_are_batches limits bytes = record {
  lines = all_lines limits (script_of bytes) (script_holds bytes);
  each = shown_text limits bytes;
}
