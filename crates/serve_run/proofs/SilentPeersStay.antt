-- A peer that says nothing is told nothing, and isn't ended.
use Rattle.std.proofs.Common.{◌≡◌, ℕ, zero, suc, ◌+◌, ◌<◌, ◌≤◌, List, [], ◌∷◌, ◌++◌, length, Bool, true, false, Option, Some, None, Result, Ok, Err, IfSome, refl, sym, ap, ◌∙◌, subst, arith, inl, inr, ◌⊎◌}
use Rattle.std.specs.Prelude.{◌==◌, ◌&&◌, ◌||◌, if◌then◌else◌}
use Rattle.std.specs.List.{AllByRecursion, slice_get}
use Rattle.std.proofs.lemmas.Bool.{ne_eqb, eqb-true, true≢false}
use Rattle.wl_proto.specs.declared.interface.Interface.{Interface}
use Rattle.wl_proto.specs.declared.interface.Interface.TheVariants as interface
use Rattle.wl_proto.specs.declared.refuse.Refuse.{Refuse}
use Rattle.wl_proto.specs.Reading.{request_reading}
use Rattle.wl_proto.specs.Rows.{Message}
use Rattle.relay_model.specs.declared.act.Act.{Act}
use Rattle.relay_model.specs.declared.act.Act.TheVariants as acts
use Rattle.relay_model.specs.declared.fault.Fault.{Fault}
use Rattle.relay_model.specs.declared.said.Told.{Told}
use Rattle.relay_model.specs.declared.said.Said.{Said}
use Rattle.relay_model.specs.declared.said.Said.TheVariants as said
use Rattle.relay_model.specs.Objects.{is_peer}
use Rattle.relay_model.specs.Idle.{is_live}
use Rattle.relay_model.specs.Told.{told}
use Rattle.broker_model.specs.declared.journal.Entry.{Entry}
use Rattle.broker_model.specs.declared.journal.Entry.TheVariants as entries
use Rattle.broker_model.specs.Ids.{Made, Joined, Past, log_of, peer_at, object_at, made_as}
use Rattle.broker_model.specs.Requests.{Argument, new_of}
use Rattle.broker_model.specs.Refusals.{request_fault}
use Rattle.broker_model.specs.Groups.{nothing, message_of, message_piece, event_piece, group_for}
use Rattle.broker_model.specs.Resolve.{Meaning, label_at, made_new, of_request, of_reading, of_message, of_peer, means, past_of, resolve}
use Rattle.broker_model.specs.Out.{Outgoing, act_at, group_at, out_for}
use Rattle.broker_model.specs.Settle.{is_bad, refused, is_due, due, with_end, settled, number_alive, history}
use Rattle.broker_model.proofs.EachElement.{either_way}
use Rattle.broker_model.proofs.IdsAreNames.{IsIn, IsWith, made_with}
use Rattle.broker_model.proofs.LabelsRiseByNumber.{label_within, one_number}
use Rattle.broker_model.proofs.QuietStoresStay.{quiet_out}
use Rattle.broker_model.proofs.SettlingEnds.{IsDue, due_is}
use Rattle.broker_core.specs.Stands.{end_of}
use Rattle.broker_telling.specs.ToldRead.{IsForIts}
use Rattle.broker_telling.proofs.ToldKinds.{told_to_its_kind}
use Rattle.serve_run.proofs.DisplaysTold.{is_of_display, Spares, AllSpare, IsNotOf, act_spares}
use Rattle.serve_run.proofs.OthersSpeak.{IsByOther, entry_not}

-- each entry is by another than a peer with the label p
abbrev AreByOthers : ℕ → List Entry → Type 0
AreByOthers p [] = Unit {0}
AreByOthers p (e ∷ older) = IsByOther p (past_of older) e × AreByOthers p older

-- ---- what such a peer made: its display

abbrev IsDisplay : ℕ → Made → Type 0
IsDisplay p m = m.peer ≡ p → (m.label ≡ p) × (m.interface ≡ interface.Display)

abbrev OnlyDisplays : ℕ → List Made → Type 0
OnlyDisplays p made = (m : Made) → IsIn made m → IsDisplay p m

new_argument : (p q n : ℕ) (o : Option Argument) → (q ≡ p → ⊥) → AllByRecursion (IsDisplay p) (made_new q n o)
new_argument p q n None h = tt
new_argument p q n (Some new) h = ((λ d. absurd (h d)), tt)

new_request : (past : Past) (p n : ℕ) (peer : Joined) (x : ℕ) (m : Message) (o : Option Fault) → (peer.label ≡ p → ⊥) →
    AllByRecursion (IsDisplay p) (of_request past n peer x m o).made
new_request past p n peer x m (Some f) h = tt
new_request past p n peer x m None h = new_argument p peer.label n (new_of m.interface m.opcode m.values) h

new_reading : (past : Past) (p n : ℕ) (peer : Joined) (x : ℕ) (r : Result Message Refuse) → (peer.label ≡ p → ⊥) →
    AllByRecursion (IsDisplay p) (of_reading past n peer x r).made
new_reading past p n peer x (Err r) h = tt
new_reading past p n peer x (Ok m) h =
    new_request past p n peer x m (request_fault past peer.label x peer.role (label_at past peer.label) m) h

new_message : (past : Past) (p n : ℕ) (peer : Joined) (opcode : ℕ) (body : List ℕ) (o : Option Made) →
    (peer.label ≡ p → ⊥) → AllByRecursion (IsDisplay p) (of_message past n peer opcode body o).made
new_message past p n peer opcode body None h = tt
new_message past p n peer opcode body (Some x) h =
    new_reading past p n peer x.label (request_reading x.interface opcode (past.waiting peer.label) body) h

new_peer : (p : ℕ) (o : Option Joined) (f : Joined → Meaning) →
    ((peer : Joined) → o ≡ Some peer → AllByRecursion (IsDisplay p) (f peer).made) →
    AllByRecursion (IsDisplay p) (of_peer o f).made
new_peer p None f h = tt
new_peer p (Some peer) f h = h peer refl

new_entry : (e : Entry) (older : List Entry) (p : ℕ) → IsByOther p (past_of older) e →
    AllByRecursion (IsDisplay p) (means e (length older + 1) (past_of older)).made
new_entry (entries.Join role) older p h = ((λ d. (d, refl)), tt)
new_entry (entries.Message q id opcode body) older p h =
    new_peer p (peer_at (past_of older) q)
    (λ peer. of_message (past_of older) (length older + 1) peer opcode body (object_at (past_of older) peer.label id))
    (λ peer at. new_message (past_of older) p (length older + 1) peer opcode body
    (object_at (past_of older) peer.label id) (h peer at))
new_entry (entries.Tokens q tokens) older p h = tt
new_entry (entries.BadSize q head) older p h = new_peer p (peer_at (past_of older) q) _ (λ peer at. tt)
new_entry (entries.End q why) older p h = new_peer p (peer_at (past_of older) q) _ (λ peer at. tt)
new_entry (entries.Shell step) older p h = tt
new_entry (entries.Took q bytes) older p h = new_peer p (peer_at (past_of older) q) _ (λ peer at. tt)

in_both : (p : ℕ) (new made : List Made) → AllByRecursion (IsDisplay p) new → OnlyDisplays p made →
    OnlyDisplays p (new ++ made)
in_both p [] made h d m i = d m i
in_both p (x ∷ new) made h d m (inl e) = subst (λ (u : Made). IsDisplay p u) e h.0
in_both p (x ∷ new) made h d m (inr i) = in_both p new made h.1 d m i

displays : (journal : List Entry) (p : ℕ) → AreByOthers p journal → OnlyDisplays p (past_of journal).made
displays [] p h m i = absurd i
displays (e ∷ older) p h m i =
    in_both p (means e (length older + 1) (past_of older)).made (past_of older).made (new_entry e older p h.0)
    (displays older p h.1) m i

-- ---- so it is told nothing

none_of_display : (made : List Made) (event : Said) (id : ℕ) →
    IfSome (message_of made event) (λ m. m.interface ≡ interface.Display) → is_of_display event ≡ false →
    message_piece id (message_of made event) ≡ nothing
none_of_display made (said.DeleteId x) id k q = cc
none_of_display made (said.Error x fault) id k q = cc
none_of_display made (said.Pass time key state) id k q = refl
none_of_display made (said.VMods mods) id k q = refl
none_of_display made (said.Placed popup x y) id k q = refl
none_of_display made _ id k q = cc

event_none : (made : List Made) (p : ℕ) (t : Told) → OnlyDisplays p made → Spares p t → IsForIts made t →
    event_piece made p t.event (made_as made t.to) ≡ nothing
event_none made p t d s k = by (made_as made t.to) refl
  where
    unless : (m : Made) → made_as made t.to ≡ Some m → m.peer ≡ p → Spares p t →
        message_piece m.id (message_of made t.event) ≡ nothing
    unless m e same (inl quiet) =
        let w : IsWith made t.to m = made_with made t.to m e in
        none_of_display made t.event m.id
        (subst (λ (i : Interface). IfSome (message_of made t.event) (λ x. x.interface ≡ i)) (d m w.among same).1 (k m e))
        quiet
    unless m e same (inr far) =
        let w : IsWith made t.to m = made_with made t.to m e in absurd (far (sym w.named ∙ (d m w.among same).0))

    whose : (m : Made) → made_as made t.to ≡ Some m → (b : Bool) → (m.peer == p) ≡ b →
        (if b then message_piece m.id (message_of made t.event) else nothing) ≡ nothing
    whose m e true q = unless m e (eqb-true m.peer p q) s
    whose m e false q = refl

    by : (o : Option Made) → made_as made t.to ≡ o → event_piece made p t.event o ≡ nothing
    by None e = refl
    by (Some m) e = whose m e (m.peer == p) refl

told_none : (made : List Made) (p : ℕ) (ts : List Told) → OnlyDisplays p made → AllSpare p ts →
    AllByRecursion (IsForIts made) ts → group_for made p ts ≡ nothing
told_none made p [] d h k = refl
told_none made p (t ∷ rest) d h k =
    rw (event_none made p t d h.0 k.0, told_none made p rest d h.1 k.1) refl

group_none : (e : Entry) (older : List Entry) (p : ℕ) → AreByOthers p (e ∷ older) → group_at e older p ≡ nothing
group_none e older p h =
    let log : List Act = log_of (past_of older) in
    told_none (past_of (e ∷ older)).made p (told (act_at e older) (resolve older)) (displays (e ∷ older) p h)
    (act_spares p _ log
    (either_way (IsNotOf p log) (is_live (act_at e older) log) (act_at e older) acts.Idle (entry_not e older p h.0) tt))
    (told_to_its_kind e older)

-- and no group was left out
never_choked : (capacity : ℕ) (journal : List Entry) (p : ℕ) → AreByOthers p journal →
    (out_for capacity journal p).choked ≡ false
never_choked capacity [] p h = refl
never_choked capacity (e ∷ older) p h =
    ap (λ (o : Outgoing). o.choked) (quiet_out capacity e older p (group_none e older p h))
    ∙ never_choked capacity older p h.1

-- ---- a peer by its number

-- the entry is no message and no end of the peer q
abbrev pub IsSilent : ℕ → Entry → Type 0
IsSilent q (entries.Message k id opcode body) = k ≡ q → ⊥
IsSilent q (entries.BadSize k head) = k ≡ q → ⊥
IsSilent q (entries.End k cause) = k ≡ q → ⊥
IsSilent q _ = Unit {0}

abbrev pub AreSilent : ℕ → List Entry → Type 0
AreSilent q journal = AllByRecursion (IsSilent q) journal

-- no peer has a label that is yet to come
unborn_entry : (e : Entry) (older : List Entry) (p : ℕ) → length older < p → IsByOther p (past_of older) e
unborn_entry (entries.Message k id opcode body) older p l = λ peer at same.
    let w : peer.label ≤ length older = label_within older k peer at in absurd (omega arith)
unborn_entry (entries.BadSize k head) older p l = λ peer at same.
    let w : peer.label ≤ length older = label_within older k peer at in absurd (omega arith)
unborn_entry (entries.Join role) older p l = tt
unborn_entry (entries.Tokens k tokens) older p l = tt
unborn_entry (entries.End k cause) older p l = tt
unborn_entry (entries.Shell step) older p l = tt
unborn_entry (entries.Took k bytes) older p l = tt

unborn : (journal : List Entry) (p : ℕ) → length journal < p → AreByOthers p journal
unborn [] p l = tt
unborn (e ∷ older) p l =
    let w : length (e ∷ older) ≡ suc (length older) = refl in
    let before : length older < p = omega arith in (unborn_entry e older p before, unborn older p before)

last_or_before : (xs : List Joined) (y : Joined) (k : ℕ) (x : Joined) → slice_get (xs ++ y ∷ []) k ≡ Some x →
    (slice_get xs k ≡ Some x) ⊎ (y ≡ x)
last_or_before [] y zero x e = inr (cc)
last_or_before [] y (suc k) x e = cc
last_or_before (z ∷ xs) y zero x e = inl e
last_or_before (z ∷ xs) y (suc k) x e = last_or_before xs y k x e

-- who has joined after an entry joined before it, or by it
joined_by : (e : Entry) (older : List Entry) (q : ℕ) (peer : Joined) → peer_at (past_of (e ∷ older)) q ≡ Some peer →
    (peer_at (past_of older) q ≡ Some peer) ⊎ (peer.label ≡ length older + 1)
joined_by (entries.Join role) older zero peer at = cc
joined_by (entries.Join role) older (suc k) peer at =
    elim (last_or_before (past_of older).joined (record { label = length older + 1; role = role }) k peer at) [
      | inl old ↦ inl old
      | inr new ↦ inr (sym (ap (λ (j : Joined). j.label) new))
    ]
joined_by (entries.Message k id opcode body) older q peer at = inl at
joined_by (entries.Tokens k tokens) older q peer at = inl at
joined_by (entries.BadSize k head) older q peer at = inl at
joined_by (entries.End k cause) older q peer at = inl at
joined_by (entries.Shell step) older q peer at = inl at
joined_by (entries.Took k bytes) older q peer at = inl at

other_entry : (e : Entry) (older : List Entry) (q : ℕ) (peer : Joined) → peer_at (past_of older) q ≡ Some peer →
    IsSilent q e → IsByOther peer.label (past_of older) e
other_entry (entries.Message k id opcode body) older q peer at h =
    λ other there same. h (one_number older k q other peer there at same)
other_entry (entries.BadSize k head) older q peer at h =
    λ other there same. h (one_number older k q other peer there at same)
other_entry (entries.Join role) older q peer at h = tt
other_entry (entries.Tokens k tokens) older q peer at h = tt
other_entry (entries.End k cause) older q peer at h = tt
other_entry (entries.Shell step) older q peer at h = tt
other_entry (entries.Took k bytes) older q peer at h = tt

by_others : (journal : List Entry) (q : ℕ) (peer : Joined) → peer_at (past_of journal) q ≡ Some peer →
    AreSilent q journal → AreByOthers peer.label journal
by_others [] q peer at h = tt
by_others (e ∷ older) q peer at h =
    elim (joined_by e older q peer at) [
      | inl old ↦ (other_entry e older q peer old h.0, by_others older q peer old h.1)
      | inr new ↦
          (let l : length older < peer.label = omega arith in (unborn_entry e older peer.label l, unborn older peer.label l))
    ]

not_refused : (journal : List Entry) (q : ℕ) → AreSilent q journal → refused journal q ≡ false
not_refused [] q h = refl
not_refused (entries.Message k id opcode body ∷ older) q h =
    ap (λ (b : Bool). if b then is_bad (act_at (entries.Message k id opcode body) older) else refused older q)
    (ne_eqb k q h.0)
    ∙ not_refused older q h.1
not_refused (entries.BadSize k head ∷ older) q h =
    ap (λ (b : Bool). if b then is_bad (act_at (entries.BadSize k head) older) else refused older q) (ne_eqb k q h.0)
    ∙ not_refused older q h.1
not_refused (entries.Join role ∷ older) q h = not_refused older q h.1
not_refused (entries.Tokens k tokens ∷ older) q h = not_refused older q h.1
not_refused (entries.End k cause ∷ older) q h = not_refused older q h.1
not_refused (entries.Shell step ∷ older) q h = not_refused older q h.1
not_refused (entries.Took k bytes ∷ older) q h = not_refused older q h.1

no_end : (journal : List Entry) (q : ℕ) → AreSilent q journal → end_of journal q ≡ None
no_end [] q h = refl
no_end (entries.End k cause ∷ older) q h =
    ap (λ (b : Bool). if b then Some cause else end_of older q) (ne_eqb k q h.0) ∙ no_end older q h.1
no_end (entries.Message k id opcode body ∷ older) q h = no_end older q h.1
no_end (entries.BadSize k head ∷ older) q h = no_end older q h.1
no_end (entries.Join role ∷ older) q h = no_end older q h.1
no_end (entries.Tokens k tokens ∷ older) q h = no_end older q h.1
no_end (entries.Shell step ∷ older) q h = no_end older q h.1
no_end (entries.Took k bytes ∷ older) q h = no_end older q h.1

and_false : (b : Bool) → (b && false) ≡ false
and_false true = refl
and_false false = refl

not_due : (capacity : ℕ) (journal : List Entry) (q : ℕ) (peer : Joined) → peer_at (past_of journal) q ≡ Some peer →
    AreSilent q journal → is_due capacity journal q peer ≡ false
not_due capacity journal q peer at h =
    let lives : Bool = is_peer (log_of (past_of journal)) peer.label in
    ap (λ (b : Bool). lives && (b || (out_for capacity journal peer.label).choked)) (not_refused journal q h)
    ∙ ap (λ (b : Bool). lives && b) (never_choked capacity journal peer.label (by_others journal q peer at h))
    ∙ and_false lives

-- ---- no settling ends it

settled_silent : (capacity n : ℕ) (journal : List Entry) (q : ℕ) → AreSilent q journal →
    AreSilent q (settled capacity n journal)
settled_silent capacity zero journal q h = h
settled_silent capacity (suc n) journal q h =
    settled_silent capacity n (with_end journal (due capacity journal)) q (by (due capacity journal) refl)
  where
    by : (o : Option ℕ) → due capacity journal ≡ o → AreSilent q (with_end journal o)
    by None e = h
    by (Some k) e = (
      λ same.
          let d : IsDue capacity journal q =
          due_is capacity journal q (e ∙ ap (λ (j : ℕ). Some j) same) in
          true≢false (sym d.is ∙ not_due capacity journal q d.peer d.joined h),
      h,
    )

silent_history : (capacity : ℕ) (steps : List Entry) (q : ℕ) → AreSilent q steps →
    AreSilent q (history capacity steps)
silent_history capacity [] q h = tt
silent_history capacity (e ∷ older) q h =
    let journal : List Entry = e ∷ history capacity older in
    settled_silent capacity (number_alive journal) journal q (h.0, silent_history capacity older q h.1)

-- a peer of which no step is has no end
pub never_ended : (capacity : ℕ) (steps : List Entry) (q : ℕ) → AreSilent q steps →
    end_of (history capacity steps) q ≡ None
never_ended capacity steps q h = no_end (history capacity steps) q (silent_history capacity steps q h)
