-- The focus moves by a visit to the fields that may be entered, and to those of the peer that it comes to.
use Rattle.std.proofs.Common.{◌≡◌, ℕ, zero, suc, ◌<◌, List, [], ◌∷◌, ◌++◌, length, get_or, map, filter, Bool, true, false, ◌||◌, if◌then◌else◌, eqb, Option, Some, None, refl, sym, ap, ◌∙◌, arith}
use Rattle.std.proofs.lemmas.Bool.Decides.{nat_tests}
use Rattle.std.proofs.lemmas.List.Elements.{All-map}
use Rattle.field_state.specs.Stands.{Kept}
use Rattle.field_state.specs.Changes.{focused}
use Rattle.relay_model.specs.Objects.{is_at}
use Rattle.relay_objects.specs.declared.change.Change.TheVariants.{Focus}
use Rattle.relay_objects.specs.declared.object.Object.{Object}
use Rattle.relay_objects.specs.declared.object.Kind.{Kind}
use Rattle.relay_objects.specs.declared.object.Kind.TheVariants.{Peer, Surface, Field, Method, Popup, Grab, Thing, Board}
use Rattle.relay_objects.specs.declared.listed.LiveField.{LiveField}
use Rattle.relay_objects.specs.declared.listed.LivePopup.{LivePopup}
use Rattle.relay_objects.specs.declared.entered.Entered.{Entered}
use Rattle.relay_objects.specs.declared.entered.Entered.TheVariants.{Nobody, One, Anyone}
use Rattle.relay_objects.specs.Changes.{changed_at}
use Rattle.relay_objects.specs.Objects.{changed, is_field_kind, refocused}
use Rattle.relay_objects.specs.Listed.{live_field, of_peer, is_field_of, fields_of, entered_by, may_be, left_for, visited, is_among, refocused_in, IsCalm, Lists}
use Rattle.relay_objects.proofs.SiftedLists.{any_filter, map_map, map_all}
use Rattle.relay_objects.proofs.ListedObjects.{lists_mapped}
use Rattle.relay_objects.proofs.LeftFields.{keeps_changed}

-- a second visit changes nothing

changed_twice : (e : Bool) (k : Kind) → changed (focused e) (changed (focused e) k) ≡ changed (focused e) k
changed_twice e Peer = refl
changed_twice e (Surface area) = refl
changed_twice e (Field kept) = refl
changed_twice e Method = refl
changed_twice e (Popup m s) = refl
changed_twice e (Grab m) = refl
changed_twice e Thing = refl
changed_twice e Board = refl

refocused_twice : (peer : Option ℕ) (o : Object) → refocused peer (refocused peer o) ≡ refocused peer o
refocused_twice peer o = ap (λ k. record o { kind = k }) (changed_twice (is_at peer o.peer) o.kind)

again : (peer : Option ℕ) (o : Object) (b : Bool) →
    (if b then refocused peer (refocused peer o) else refocused peer o) ≡ refocused peer o
again peer o true = refocused_twice peer o
again peer o false = refl

-- one visit more

or_false : (b : Bool) → (b || false) ≡ b
or_false true = refl
or_false false = refl

or_assoc : (a b c : Bool) → (a || (b || c)) ≡ ((a || b) || c)
or_assoc true b c = refl
or_assoc false b c = refl

among_push : (ws : List LiveField) (w : LiveField) (o : Object) →
    is_among (ws ++ w ∷ []) o ≡ (is_among ws o || eqb o.label w.label)
among_push [] w o = or_false (eqb o.label w.label)
among_push (v ∷ vs) w o = rw (among_push vs w o) (or_assoc (eqb o.label v.label) (is_among vs o) (eqb o.label w.label))

one_more : (peer : Option ℕ) (x : ℕ) (o : Object) (a : Bool) →
    changed_at x (Focus peer) (if a then refocused peer o else o) ≡ (if a || eqb o.label x then refocused peer o else o)
one_more peer x o true = again peer o (eqb o.label x)
one_more peer x o false = refl

pub visit_more : (ws : List LiveField) (w : LiveField) (peer : Option ℕ) (os : List Object) →
    map (changed_at w.label (Focus peer)) (map (refocused_in ws peer) os) ≡ map (refocused_in (ws ++ w ∷ []) peer) os
visit_more ws w peer os =
    map_map (changed_at w.label (Focus peer)) (refocused_in ws peer) (refocused_in (ws ++ w ∷ []) peer) os
    (λ o. rw (among_push ws w o) (one_more peer w.label o (is_among ws o)))

pub visit_none : (peer : Option ℕ) (os : List Object) → map (refocused_in [] peer) os ≡ os
visit_none peer [] = refl
visit_none peer (o ∷ os) = ap (λ rest. o ∷ rest) (visit_none peer os)

-- who is visited

among_if : (o x : Object) (b : Bool) (xs : List Object) → is_among (map live_field xs) o ≡ true →
    is_among (map live_field (if b then x ∷ xs else xs)) o ≡ true
among_if o x true xs any = either (eqb o.label x.label)
  where
    either : (a : Bool) → (a || is_among (map live_field xs) o) ≡ true
    either true = refl
    either false = any
among_if o x false xs any = any

-- a field of the peer is among the peer's fields
own_field : (q : ℕ) (os : List Object) (k : ℕ) (d : Object) → k < length os → is_field_of q (get_or os k d) ≡ true →
    is_among (fields_of q os) (get_or os k d) ≡ true
own_field q [] k d lt is = absurd (omega arith)
own_field q (o ∷ os) zero d lt is =
    let itself : eqb o.label o.label ≡ true = grind (arith, nat_tests) in
    rw (is, itself) refl
own_field q (o ∷ os) (suc k) d lt is =
    among_if (get_or os k d) o (is_field_of q o) (filter (is_field_of q) os) (own_field q os k d (omega arith) is)

not_field : (f : Kept → Kept) (k : Kind) → is_field_kind k ≡ false → changed f k ≡ k
not_field f Peer off = refl
not_field f (Surface area) off = refl
not_field f (Field kept) off = absurd (cc)
not_field f Method off = refl
not_field f (Popup m s) off = refl
not_field f (Grab m) off = refl
not_field f Thing off = refl
not_field f Board off = refl

may_be_by : (peer : Option ℕ) (p : ℕ) → may_be (entered_by peer) p ≡ is_at peer p
may_be_by None p = refl
may_be_by (Some q) p = refl

-- who is left, or has the focus, is all who may be entered
left_covers : (e : Entered) (peer : Option ℕ) (p : ℕ) → may_be (left_for e peer) p ≡ false →
    may_be (entered_by peer) p ≡ false → may_be e p ≡ false
left_covers Nobody peer p left now = refl
left_covers Anyone peer p left now = left
left_covers (One q) None p left now = left
left_covers (One q) (Some r) p left now = by_test (eqb r q) refl left
  where
    by_test : (b : Bool) → eqb r q ≡ b → may_be (if b then Nobody else One q) p ≡ false → eqb q p ≡ false
    by_test true is left = grind (arith, nat_tests)
    by_test false is left = left

module _ (os : List Object) (fields : List LiveField) (popups : List LivePopup) (entered : Entered)
    (lists : Lists os fields popups entered) where
  -- a field of a peer whose fields are visited is visited
  is_visited : (e : Entered) (k : ℕ) (d : Object) → k < length os → is_field_kind (get_or os k d).kind ≡ true →
      may_be e (get_or os k d).peer ≡ true → is_among (visited e fields) (get_or os k d) ≡ true
  is_visited Nobody k d lt field may = absurd (cc)
  is_visited (One q) k d lt field may =
      let test : eqb (get_or os k d).peer q ≡ true = grind (arith, nat_tests) in
      rw (lists.fields_are q) (own_field q os k d lt (rw (field, test) refl))
  is_visited Anyone k d lt field may =
      let o = get_or os k d in
      let test : eqb o.peer o.peer ≡ true = grind (arith, nat_tests) in
      any_filter (λ w. eqb o.label w.label) (of_peer o.peer) fields
      (rw (lists.fields_are o.peer) (own_field o.peer os k d lt (rw (field, test) refl)))

  unvisited : (e : Entered) (k : ℕ) (d : Object) (b : Bool) → k < length os →
      is_among (visited e fields) (get_or os k d) ≡ false → is_field_kind (get_or os k d).kind ≡ true →
      may_be e (get_or os k d).peer ≡ b → may_be e (get_or os k d).peer ≡ false
  unvisited e k d true lt off field is = let yes = is_visited e k d lt field is in absurd (cc)
  unvisited e k d false lt off field is = is

  -- what is not visited is as the focus would leave it
  still : (peer : Option ℕ) (k : ℕ) (d : Object) (b : Bool) → k < length os →
      is_among (visited (left_for entered peer) fields) (get_or os k d) ≡ false →
      is_among (visited (entered_by peer) fields) (get_or os k d) ≡ false → is_field_kind (get_or os k d).kind ≡ b →
      refocused peer (get_or os k d) ≡ get_or os k d
  still peer k d false lt not_old not_new off =
      ap (λ v. record (get_or os k d) { kind = v })
      (not_field (focused (is_at peer (get_or os k d).peer)) (get_or os k d).kind off)
  still peer k d true lt not_old not_new field =
      let p = (get_or os k d).peer in
      let not_left = unvisited (left_for entered peer) k d (may_be (left_for entered peer) p) lt not_old field refl in
      let not_now = unvisited (entered_by peer) k d (may_be (entered_by peer) p) lt not_new field refl in
      let calm = lists.calm k d lt (left_covers entered peer p not_left not_now) in
      let away : is_at peer p ≡ false = sym (may_be_by peer p) ∙ not_now in
      rw away calm

  after_second : (peer : Option ℕ) (o : Object) (b : Bool) → (b ≡ false → refocused peer o ≡ o) →
      (if b then refocused peer o else o) ≡ refocused peer o
  after_second peer o true rest = refl
  after_second peer o false rest = sym (rest refl)

  after_both : (peer : Option ℕ) (o : Object) (a : Bool) (ws : List LiveField) →
      (a ≡ false → is_among ws o ≡ false → refocused peer o ≡ o) →
      refocused_in ws peer (if a then refocused peer o else o) ≡ refocused peer o
  after_both peer o true ws rest = again peer o (is_among ws o)
  after_both peer o false ws rest = after_second peer o (is_among ws o) (rest refl)

  -- the two visits are the change of all
  pub visits_are : (peer : Option ℕ) →
      map (refocused_in (visited (entered_by peer) fields) peer)
      (map (refocused_in (visited (left_for entered peer) fields) peer) os) ≡ map (refocused peer) os
  visits_are peer =
      map_all (refocused_in (visited (entered_by peer) fields) peer)
      (refocused_in (visited (left_for entered peer) fields) peer) (refocused peer) os
      (λ k d lt. after_both peer (get_or os k d) (is_among (visited (left_for entered peer) fields) (get_or os k d))
      (visited (entered_by peer) fields)
      (λ not_old not_new. still peer k d (is_field_kind (get_or os k d).kind) lt not_old not_new refl))

  calm_now : (peer : Option ℕ) (o : Object) → IsCalm (entered_by peer) (refocused peer o)
  calm_now peer o may =
      let away : is_at peer o.peer ≡ false = sym (may_be_by peer o.peer) ∙ may in
      rw away (refocused_twice None o)

  pub lists_refocused : (peer : Option ℕ) → Lists (map (refocused peer) os) fields popups (entered_by peer)
  lists_refocused peer =
      lists_mapped (refocused peer) (keeps_changed (Focus peer)) os fields popups entered lists (entered_by peer)
      (All-map (IsCalm (entered_by peer)) (refocused peer) os (λ k d lt. calm_now peer (get_or os k d)))
