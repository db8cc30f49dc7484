-- What moves of the focus and batches tell is what the definitions tell.
use Rattle.std.proofs.Common.{◌≡◌, ℕ, ◌+◌, ◌%◌, ◌^◌, ◌≤◌, List, [], ◌∷◌, ◌++◌, length, map, Bool, true, false, Option, Some, None, ap, refl, sym, ◌∙◌}
use Rattle.std.specs.Prelude.{◌&&◌, if◌then◌else◌, filter, is_some, unwrap_or, min}
use Rattle.std.proofs.lemmas.Bool.{true≢false, eqb-true}
use Rattle.std.proofs.lemmas.List.{append-nil, map-append}
use Rattle.std.proofs.lemmas.List.Elements.{filter-append}
use Rattle.relay_model.specs.declared.act.Act.{Act}
use Rattle.relay_model.specs.declared.act.Act.TheVariants as acts
use Rattle.relay_model.specs.declared.said.Told.{Told}
use Rattle.relay_model.specs.declared.said.Said.{Said}
use Rattle.relay_model.specs.declared.said.Said.TheVariants as said
use Rattle.relay_model.specs.Objects.{Object, Kind, PeerKind, SurfaceKind, FieldKind, MethodKind, ThingKind, BoardKind, PopupKind, GrabKind, is_at, is_same, is_kind, is_field_kind, is_surface, is_field, owner, object, alive, peer_of, labels, fields, remains}
use Rattle.relay_model.specs.Focus.{focus, focused_peer, entered}
use Rattle.relay_model.specs.Hold.{holder}
use Rattle.relay_model.specs.Activation.{serving, notice, begun, begun_of, begun_for, dones, named, is_from}
use Rattle.relay_model.specs.Batch.{Batch, edits_past, group, deletion_said, preedit_said, string_said, commit_count}
use Rattle.relay_model.specs.Told.{to, leave, enter, each_entered, leaves, to_method, enters, own, to_holder, told_by}
use Rattle.relay_model.proofs.ActsOrIdle.{IsHistory}
use Rattle.relay_model.proofs.ObjectLaws.{object_step, object_new}
use Rattle.relay_model.proofs.FocusLaws.{entered_field}
use Rattle.relay_model.proofs.HoldLaws.{holder_entered, holder_refocused, kept_unfocused, kept_same}
use Rattle.relay_model.proofs.ActivationLaws.{Each, each_map, serving_step, serving_alive}
use Rattle.relay_model.proofs.FocusLaws.{focus_left}
use Rattle.relay_objects.specs.declared.object.Object.{Object as Kept}
use Rattle.relay_objects.specs.Objects.{find, owner_in, is_field_kind as is_field_kept}
use Rattle.relay_core.specs.Machine.{State, counted, focused_in, said_to, leaves_of, release_told, is_fresh, batch_of, group_told, group_of_holder, batch_told}
use Rattle.relay_core.specs.Stands.{Stands, edits_of, entry, entry_of, entries, kind_of, count_from}
use Rattle.relay_core.proofs.HistoryEntries.{labels_within, entry_label}
use Rattle.relay_core.proofs.LookUpsFind.{finds_owner, finds_count, focused_is}
use Rattle.relay_core.proofs.FreshByNumbers.{fresh_is, fresh_none}
use Rattle.relay_core.proofs.SteadyActs.{mcommit_steady, notice_quiet, notice_ended, ended}
use Rattle.relay_core.proofs.FocusActsStand.{focus_focused, focus_peer}
use Rattle.relay_core.proofs.ActsTell.{method_quiet, method_ended}

-- what each field of a peer is told

said_if : (say : Said) (peer : Option ℕ) (b : Bool) (o : Kept) (os : List Kept) →
    said_to say peer (if b then o ∷ os else os)
    ≡ (if b && (is_field_kept o.kind && is_at peer o.peer) then to o.label say ∷ said_to say peer os
    else said_to say peer os)
said_if say peer true o os = refl
said_if say peer false o os = refl

map_if : {A : Type 0} (b : Bool) (f : ℕ → A) (x : ℕ) (xs : List ℕ) →
    map f (if b then x ∷ xs else xs) ≡ (if b then f x ∷ map f xs else map f xs)
map_if true f x xs = refl
map_if false f x xs = refl

filter_if : (test : ℕ → Bool) (b : Bool) (x : ℕ) (xs : List ℕ) →
    filter test (if b then x ∷ xs else xs) ≡ (if b && test x then x ∷ filter test xs else filter test xs)
filter_if test true x xs = refl
filter_if test false x xs = refl

cons_if : (a b : Bool) (t u : Told) (ts us : List Told) → a ≡ b → t ≡ u → ts ≡ us →
    (if a then t ∷ ts else ts) ≡ (if b then u ∷ us else us)
cons_if a b t u ts us p q r = cc

-- the label is told where the definitions say so
abbrev pub Agrees : (peer : Option ℕ) (a field test : Bool) (e : Kept) → Type 0
Agrees peer a field test e = (a && (is_field_kept e.kind && is_at peer e.peer)) ≡ (field && test)

said_list : (say : Said) (peer : Option ℕ) (e : ℕ → Kept) (a field test : ℕ → Bool) (xs : List ℕ) →
    ((y : ℕ) → (e y).label ≡ y) →
    Each (λ x. Agrees peer (a x) (field x) (test x) (e x)) xs →
    said_to say peer (map e (filter a xs)) ≡ map (λ f. to f say) (filter test (filter field xs))
said_list say peer e a field test [] l h = refl
said_list say peer e a field test (x ∷ xs) l h =
    ap (said_to say peer) (map_if (a x) e x (filter a xs)) ∙ said_if say peer (a x) (e x) (map e (filter a xs)) ∙
    cons_if (a x && (is_field_kept (e x).kind && is_at peer (e x).peer)) (field x && test x) (to (e x).label say)
    (to x say)
    (said_to say peer (map e (filter a xs))) (map (λ f. to f say) (filter test (filter field xs))) h.0
    (ap (λ y. to y say) (l x))
    (said_list say peer e a field test xs l h.1) ∙
    sym (ap (map (λ f. to f say)) (filter_if test (field x) x (filter field xs))
    ∙ map_if (field x && test x) (λ f. to f say) x (filter test (filter field xs)))

agrees_of : (log : List Act) (x : ℕ) (peer : Option ℕ) (o : Option Object) →
    (is_some o && (is_field_kept (entry_of log x o).kind && is_at peer (entry_of log x o).peer))
    ≡ (is_kind is_field_kind o && (is_kind is_field_kind o && is_same (owner o) peer))
agrees_of log x peer None = refl
agrees_of log x peer (Some thing) = at thing.kind log x (is_at peer thing.peer)
  where
    at : (k : Kind) (log : List Act) (x : ℕ) (b : Bool) →
        (is_field_kept (kind_of log x k) && b) ≡ (is_field_kind k && (is_field_kind k && b))
    at PeerKind log x b = refl
    at SurfaceKind log x b = refl
    at FieldKind log x b = refl
    at MethodKind log x b = refl
    at ThingKind log x b = refl
    at BoardKind log x b = refl
    at (PopupKind m t) log x b = refl
    at (GrabKind m) log x b = refl

-- every entered field is told, where the peer has the focus
said_entered : (say : Said) (log : List Act) →
    said_to say (focused_peer log) (entries log) ≡ map (λ f. to f say) (filter (entered log) (fields log))
said_entered say log =
    said_list say (focused_peer log) (entry log) (alive log) (is_field log) (entered log) (labels log) (entry_label log)
    (each_map (λ x. x ≤ length log)
    (λ x. Agrees (focused_peer log) (alive log x) (is_field log x) (entered log x) (entry log x)) (labels log)
    (labels_within log) (λ x w. agrees_of log x (focused_peer log) (object log x)))

leaves_by : (s : State) (log : List Act) (o : Option ℕ) → s.objects ≡ entries log → focused_in s ≡ focused_peer log →
    focus log ≡ o →
    leaves_of s o ≡ each_entered leave log o
leaves_by s log None a b e = refl
leaves_by s log (Some t) a b e =
    ap (λ os. said_to (said.Leave t) (focused_in s) os) a ∙ ap (λ p. said_to (said.Leave t) p (entries log)) b
    ∙ said_entered (said.Leave t) log

leaves_told : (s : State) (log : List Act) → Stands s log →
    leaves_of (counted s) s.focus ≡ each_entered leave log (focus log)
leaves_told s log h =
    ap (leaves_of (counted s)) h.focus_now
    ∙ leaves_by (counted s) log (focus log) h.objects_now (focused_is s log h) refl

-- the fields after the focus moved are those before

left_serving : (act : Act) (log : List Act) (o : Option ℕ) → ((x : ℕ) → remains act x (object log x) ≡ object log x) →
    serving log ≡ o → focus_left act log o ≡ o
left_serving act log None k e = refl
left_serving act log (Some m) k e = let there : is_some (object log m) ≡ true =
    serving_alive log m e in rw (k m, there) refl

filter_same : (a b : ℕ → Bool) (xs : List ℕ) → Each (λ x. a x ≡ b x) xs → filter a xs ≡ filter b xs
filter_same a b [] h = refl
filter_same a b (x ∷ xs) h = let e = filter_same a b xs h.1 in let d = h.0 in cc

focus_fields : (log : List Act) (t : ℕ) → fields (acts.Focus t ∷ log) ≡ fields log
focus_fields log t =
    let gone : is_field (acts.Focus t ∷ log) (length log + 1) ≡ false =
    ap (is_kind is_field_kind) (object_new (acts.Focus t) log) in
    let last : filter (is_field (acts.Focus t ∷ log)) ((length log + 1) ∷ []) ≡ [] = rw gone refl in
    filter-append (is_field (acts.Focus t ∷ log)) (labels log) ((length log + 1) ∷ []) ∙
    ap (λ xs. filter (is_field (acts.Focus t ∷ log)) (labels log) ++ xs) last
    ∙ append-nil (filter (is_field (acts.Focus t ∷ log)) (labels log)) ∙
    filter_same (is_field (acts.Focus t ∷ log)) (is_field log) (labels log)
    (each_map (λ x. x ≤ length log) (λ x. is_field (acts.Focus t ∷ log) x ≡ is_field log x) (labels log)
    (labels_within log)
    (λ x w. ap (is_kind is_field_kind) (object_step (acts.Focus t) log x w)))

enters_told : (log : List Act) (t : ℕ) → is_surface log t ≡ true →
    said_to (said.Enter t) (peer_of log t) (entries log)
    ≡ each_entered enter (acts.Focus t ∷ log) (focus (acts.Focus t ∷ log))
enters_told log t e =
    let now : List Act = acts.Focus t ∷ log in
    let list : said_to (said.Enter t) (peer_of log t) (entries log)
    ≡ map (λ f. to f (said.Enter t)) (filter (entered now) (fields log)) =
    said_list (said.Enter t) (peer_of log t) (entry log) (alive log) (is_field log) (entered now) (labels log)
    (entry_label log)
    (each_map (λ x. x ≤ length log)
    (λ x. Agrees (peer_of log t) (alive log x) (is_field log x) (entered now x) (entry log x)) (labels log)
    (labels_within log) (λ x w. agrees_of log x (peer_of log t) (object log x) ∙
    ap (λ o. is_field log x && (is_kind is_field_kind o && is_same (owner o) (peer_of log t)))
    (sym (object_step (acts.Focus t) log x w)) ∙
    ap (λ p. is_field log x && (is_field now x && is_same (peer_of now x) p)) (sym (focus_peer log t e)))) in
    list ∙ ap (λ fs. map (λ f. to f (said.Enter t)) (filter (entered now) fs)) (sym (focus_fields log t)) ∙
    ap (each_entered enter now) (sym (focus_focused log t e))

released_told : (s : State) (act : Act) (log : List Act) → Stands s log → serving (act ∷ log) ≡ serving log →
    notice act log ≡ ended (holder log) →
    release_told s.holder s.serving ≡ to_method act log (serving (act ∷ log))
released_told s act log h l q =
    ap (λ o. release_told o s.serving) h.holder_now
    ∙ ap (release_told (holder log)) (h.served_now.serving_now ∙ sym l) ∙
    sym (method_ended act log (holder log) (serving (act ∷ log)) q)

pub says_focus : (s : State) (log : List Act) (t : ℕ) → IsHistory log → is_surface log t ≡ true → Stands s log →
    leaves_of (counted s) s.focus
    ++ (release_told s.holder s.serving ++ said_to (said.Enter t) (owner_in (find s.objects t)) s.objects)
    ≡ told_by (acts.Focus t) log
says_focus s log t i e h =
    let a : leaves_of (counted s) s.focus ≡ leaves (acts.Focus t) log = leaves_told s log h in
    let b : release_told s.holder s.serving ≡ to_method (acts.Focus t) log (serving (acts.Focus t ∷ log)) =
    released_told s (acts.Focus t) log h
    (serving_step (acts.Focus t) log refl ∙ left_serving (acts.Focus t) log (serving log) (λ x. refl) refl)
    (notice_ended (acts.Focus t) log refl refl refl (holder_refocused t log i)) in
    let c : said_to (said.Enter t) (owner_in (find s.objects t)) s.objects ≡ enters (acts.Focus t) log =
    ap (λ p. said_to (said.Enter t) p s.objects) (finds_owner s log t h)
    ∙ ap (said_to (said.Enter t) (peer_of log t)) h.objects_now ∙ enters_told log t e in
    let d : enters (acts.Focus t) log ++ [] ≡ enters (acts.Focus t) log = append-nil (enters (acts.Focus t) log) in
    cc

pub says_unfocus : (s : State) (log : List Act) → IsHistory log → Stands s log →
    leaves_of (counted s) s.focus ++ release_told s.holder s.serving ≡ told_by acts.Unfocus log
says_unfocus s log i h =
    let a : leaves_of (counted s) s.focus ≡ leaves acts.Unfocus log = leaves_told s log h in
    let b : release_told s.holder s.serving ≡ to_method acts.Unfocus log (serving (acts.Unfocus ∷ log)) =
    released_told s acts.Unfocus log h
    (serving_step acts.Unfocus log refl ∙ left_serving acts.Unfocus log (serving log) (λ x. refl) refl)
    (notice_ended acts.Unfocus log refl refl refl (kept_unfocused acts.Unfocus log refl)) in
    let d : to_method acts.Unfocus log (serving (acts.Unfocus ∷ log)) ++ []
    ≡ to_method acts.Unfocus log (serving (acts.Unfocus ∷ log)) =
    append-nil (to_method acts.Unfocus log (serving (acts.Unfocus ∷ log))) in
    cc

-- a batch

group_maps : (h n : ℕ) (b : Batch) → group_told b n h ≡ map (to h) (group b n)
group_maps h n b =
    sym (map-append (to h) (deletion_said b.deletion)
    (string_said b.string ++ (preedit_said b.preedit ++ said.FieldDone n ∷ [])) ∙
    ap (λ ts. map (to h) (deletion_said b.deletion) ++ ts)
    (map-append (to h) (string_said b.string) (preedit_said b.preedit ++ said.FieldDone n ∷ []) ∙
    ap (λ ts. map (to h) (string_said b.string) ++ ts)
    (map-append (to h) (preedit_said b.preedit) (said.FieldDone n ∷ []))))

holder_group : (s : State) (log : List Act) (m serial b : ℕ) (o : Option ℕ) → IsHistory log → Stands s log →
    holder log ≡ o → begun log ≡ Some b →
    s.edits ≡ edits_of (edits_past b log m) → group_of_holder (counted s) o ≡ to_holder (acts.MCommit m serial) log o
holder_group s log m serial b None i h e k t = refl
holder_group s log m serial b (Some f) i h e k t =
    ap (λ n. group_told (batch_of s.edits) n f)
    (finds_count s log f h (entered_field log f (holder_entered log f i e))) ∙
    ap (λ edits. group_told (batch_of edits) (commit_count log f) f) t
    ∙ group_maps f (commit_count log f) (edits_past b log m) ∙
    ap (λ v. map (to f) (group (edits_past (unwrap_or v 0) log m) (commit_count log f))) (sym k)

if_fresh : (b : Bool) (xs ys : List Told) → xs ≡ ys → (if b then xs else []) ≡ (if b then ys else [])
if_fresh b xs ys e = ap (λ zs. if b then zs else []) e

none_if : (b : Bool) (xs : List Told) → b ≡ false → (if b then xs else []) ≡ []
none_if true xs e = absurd (true≢false e)
none_if false xs e = refl

batch_begun : (s : State) (log : List Act) (m serial : ℕ) (o : Option ℕ) → IsHistory log → Stands s log →
    serving log ≡ Some m → begun_for log m ≡ o →
    (if is_fresh s.dones s.since serial then group_of_holder (counted s) s.holder else [])
    ≡ (if is_from o (named log m serial) then to_holder (acts.MCommit m serial) log (holder log) else [])
batch_begun s log m serial None i h e k =
    let z : s.since ≡ 0 = rw (e, k) at h.served_now.since_now in
    none_if (is_fresh s.dones s.since serial) (group_of_holder (counted s) s.holder)
    (ap (λ n. is_fresh s.dones n serial) z ∙ fresh_none s.dones serial)
batch_begun s log m serial (Some b) i h e k =
    let count : s.dones ≡ length (dones log m) % 2 ^ 32 = rw e at h.served_now.dones_now in
    let since : s.since ≡ min (count_from b (dones log m)) (2 ^ 32) = rw (e, k) at h.served_now.since_now in
    let text : s.edits ≡ edits_of (edits_past b log m) = rw (e, k) at h.served_now.edits_now in
    let present : begun log ≡ Some b = ap (begun_of log) e ∙ k in
    let test : is_fresh s.dones s.since serial ≡ is_from (Some b) (named log m serial) =
    ap (λ n. is_fresh n s.since serial) count ∙ ap (λ n. is_fresh (length (dones log m) % 2 ^ 32) n serial) since
    ∙ sym (fresh_is log m b serial) in
    ap (λ t. if t then group_of_holder (counted s) s.holder else []) test ∙
    if_fresh (is_from (Some b) (named log m serial)) (group_of_holder (counted s) s.holder)
    (to_holder (acts.MCommit m serial) log (holder log))
    (ap (group_of_holder (counted s)) h.holder_now ∙ holder_group s log m serial b (holder log) i h refl present text)

batch_by : (s : State) (log : List Act) (m serial : ℕ) (o : Option ℕ) (c : Bool) → IsHistory log → Stands s log →
    serving log ≡ o → is_at o m ≡ c →
    (if c && is_fresh s.dones s.since serial then group_of_holder (counted s) s.holder else [])
    ≡ (if c && is_from (begun_of log o) (named log m serial) then to_holder (acts.MCommit m serial) log (holder log)
    else [])
batch_by s log m serial o false i h e k = refl
batch_by s log m serial None true i h e k = cc
batch_by s log m serial (Some n) true i h e k =
    let d : n ≡ m = eqb-true n m k in
    let here : serving log ≡ Some m = e ∙ ap (λ v. Some v) d in
    batch_begun s log m serial (begun_for log m) i h here refl ∙
    ap (λ v. if is_from (begun_for log v) (named log m serial) then to_holder (acts.MCommit m serial) log (holder log)
    else []) (sym d)

pub says_batch : (s : State) (log : List Act) (m serial : ℕ) → IsHistory log → Stands s log →
    batch_told m serial (counted s) ≡ told_by (acts.MCommit m serial) log
says_batch s log m serial i h =
    let quiet : to_method (acts.MCommit m serial) log (serving (acts.MCommit m serial ∷ log)) ≡ [] =
    method_quiet (acts.MCommit m serial) log (serving (acts.MCommit m serial ∷ log))
    (notice_quiet (acts.MCommit m serial) log refl refl refl
    (kept_same (acts.MCommit m serial) log i (mcommit_steady m serial))) in
    ap (λ o. if is_at o m && is_fresh s.dones s.since serial then group_of_holder (counted s) s.holder else [])
    h.served_now.serving_now ∙
    batch_by s log m serial (serving log) (is_at (serving log) m) i h refl refl ∙
    ap (λ ts. ts ++ own (acts.MCommit m serial) log) (sym quiet)
