-- Each step of the lock keeps the rule of its table, and tells what it should
use Rattle.std.proofs.Common.{◌≡◌, ◌≢◌, ℕ, ◌+◌, ◌%◌, ◌^◌, ◌<◌, Bool, true, false, eqb, List, [], ◌∷◌, ◌++◌, length, get_or, set, sym, refl, ap, ◌∙◌, subst, inl, inr, ⊎_elim, Option, Some, arith, length-append, length-set, get_or-set_other, get_or-set_same, ne_eqb}
use mathlib.Core.Logic.{dite}
use mathlib.Core.Option.{none, some}
use native.Mathlib.Decide.{ℕ_discrete}
use lib.ListN.{get_elem?}
use lib.Seq.{set-get_or}
use prog.Atomic.{either}
use Rattle.atomic_table.specs.Table.{State, Me, step, Act, keeps, takes, gives, Valid, rest, carried_after, homes_after, stepped, opening, Allows, Final, Seen, Splits, Joins}
use Rattle.atomic_table.proofs.Lists.{set_again, at_longer, set_else}
use Rattle.turn_lock.specs.declared.view.View.{View}
use Rattle.turn_lock.specs.Pairs.{NoneOf, HasSeen}
use Rattle.turn_lock.specs.Rule.{At, IsFree, IsHeld, Kept}
use Rattle.turn_lock.specs.Steps.{hold, newcomer, view_after_split, view_split_off, view_met_with, spent, AtRest, Won, Takes, Grows, Frees, Learns}
use Rattle.turn_lock.proofs.PairsOfNumbers.{none-append, none-pair, has-all, has-more}
use Rattle.turn_lock.proofs.ViewsAfterChange.{each-set, each-end, set-found, set-kept, same-place, count-two}
use Rattle.turn_lock.proofs.PeopleAfterStep.{people-step, people-new}
use Rattle.turn_lock.proofs.PeopleAfterSplit.{people-split}
use Rattle.turn_lock.proofs.PeopleAfterMeeting.{people-met}
use Rattle.turn_lock.proofs.FirstSeatKnows.{all-seen, is-tallied}

not-true : (b : Bool) → (b ≡ true → ⊥) → b ≡ false
not-true true n = absurd (n refl)
not-true false n = refl

abbrev story_in : {S : Type 0} → S → List (ℕ × Option S) → S
story_in d ((k, Some x) ∷ xs) = x
story_in d _ = d

module _ {S E C : Type 0} (constant : S → C) (history : S → List (ℕ × E)) (c : C) where
  abbrev M : Type 0
  M = Me (Option S) (View E C)

  abbrev Rule : State (Option S) (View E C) → Type 0
  Rule = Kept constant history c

  -- a view that holds nothing is not the holder's
  not-holder : (h : List (ℕ × E)) (s : State (Option S) (View E C)) (k : IsHeld h s) (i : ℕ) (x : View E C)
      → get_elem? s.views i ≡ some x → x.holds ≡ false → k.who ≢ i
  not-holder h s k i x there off e =
      let same : k.holder ≡ x = same-place s.views k.who i k.holder x e k.at.0 there in
      let on : k.holder.holds ≡ true = k.holds in absurd (cc)

  won : (id : ℕ) (me : M) (s : State (Option S) (View E C)) (r : Rule s) (f : IsFree constant history c r.h s)
      → AtRest me → get_elem? s.views id ≡ some me.0
      → (w : View E C) × (a : Act (Option S)) × Valid s.homes me.1 a × Rule (stepped s 0 1 id me.1 w a)
      × Won constant history me (w, carried_after me.1 a)
  won id me s r f idle at =
      let x = f.story in
      let w : View E C = hold me.0 true (history x) in
      let there : At s.views id me.0 = (at, idle.live) in
      let two = r.two in
      let all : (P : List (ℕ × E) → Type 0) → P r.h → P (history x) = λ P q. subst P (sym f.is) q in (
        w,
        takes 0 (Some x),
        ap (λ hs. get_elem? hs 0) f.home,
        record {
          h = r.h;
          two = length-set s.words 0 1 ∙ two;
          count = get_or-set_other s.words 0 1 1 0 (λ e. omega arith) ∙ r.count;
          people = people-step c r.h r.h (history x) s.views id me.0 true there (λ n _ k. k) (λ n y _ k. k)
              (λ n _. all (λ z. HasSeen r.h n z) (has-all r.h n)) r.people;
          lock = inr record {
            word = get_or-set_same s.words 0 1 0 (omega arith);
            home = ap (λ hs. set hs 0 none) f.home;
            who = id;
            holder = w;
            at = (set-found s.views id me.0 w at, idle.live);
            holds = refl;
            only = each-set (λ j v. v.holds ≡ true → (j ≡ id) × (v.seen ≡ r.h)) s.views id w (λ _. (refl, f.is))
                (λ j v _ found on. let off = f.none_holds j v found in absurd (cc));
          };
        },
        record {
          story = x;
          hands = refl;
          view = refl;
          told = r.people.told id me.0 there ∙ ap Some (sym f.same);
          seen = all (λ z. HasSeen z me.0.number me.0.seen) (r.people.seen id me.0 there);
          settled = λ k i. all (λ z. HasSeen z k me.0.seen) (r.people.taken id me.0 there k i).settled;
        },
      )

  missed : (id : ℕ) (me : M) (s : State (Option S) (View E C)) → Rule s → get_elem? s.views id ≡ some me.0
      → Rule (stepped s 0 (get_or s.words 0 0) id me.1 me.0 keeps)
  missed id me s r at =
      subst Rule (λ i. record {
        words = sym (set-get_or s.words 0 0) i;
        homes = s.homes;
        views =
            sym (set_again s.views id me.0 at) i;
      }) r

  pub allows-take : (slots id : ℕ) (me : M) → AtRest me
      → Allows Rule slots id me 0 (λ n. either (eqb n 0) 1 n) (Takes constant history (step slots 0 0 1 none) me)
  allows-take slots id me idle s r wide at small =
      let n : ℕ = get_or s.words 0 0 in
      let P : ℕ → ℕ → Type 0 = λ m after. (w : View E C) × (a : Act (Option S)) × Valid s.homes me.1 a × Rule
      (stepped s 0 after id me.1 w a) × Takes constant history (step slots 0 0 1 none) me m
      (w, carried_after me.1 a) in
      dite (ℕ_discrete n 0)
      (λ hit. subst (λ m. P m (either (eqb m 0) 1 m)) (sym hit) (⊎_elim
      (λ f. let k = won id me s r f idle at in (k.0, k.1, k.2, k.3, ((λ _. k.4), λ other. absurd (other refl))))
      (λ h. let one = h.word in absurd (omega arith)) r.lock))
      (λ miss. subst (λ b. P n (either b 1 n)) (sym (ne_eqb n 0 miss))
      (me.0, keeps, tt, missed id me s r at, ((λ hit. absurd (miss hit)), λ _. (refl, refl))))

  pub allows-grow : (slots id : ℕ) (me : M) (x : S) (e : E) → me.1 ≡ (0, Some x) ∷ [] → me.0.holds ≡ true
      → me.0.is_live ≡ true
      → history x ≡ me.0.seen ++ (me.0.number, e) ∷ [] → length (history x) < 2 ^ 64
      → Allows Rule slots id me 1 (λ n. (n + 1) % 2 ^ 64) (Grows history (step slots 1 1 0 none) me)
  allows-grow slots id me x e hand on live is fits s r wide at small = ⊎_elim
      (λ f. let off = f.none_holds id me.0 at in absurd (cc))
      (λ k.
      let w : View E C = hold me.0 true (history x) in
      let two = r.two in
      let q : ℕ = (get_or s.words 1 0 + 1) % 2 ^ 64 in
      let mine = k.only id me.0 at on in
      let pair : List (ℕ × E) = (me.0.number, e) ∷ [] in
      let more : r.h ++ pair ≡ history x = ap (λ z. z ++ pair) (sym mine.1) ∙ sym is in
      let long : length (history x) ≡ get_or s.words 1 0 + 1 =
      ap length is ∙ (length-append me.0.seen pair ∙ ap (λ (k : ℕ). k + 1) (ap length mine.1 ∙ sym r.count)) in
      let whole : q ≡ length (history x) = omega arith in (
        w,
        keeps,
        tt,
        record {
          h = history x;
          two = length-set s.words 1 q ∙ two;
          count = get_or-set_same s.words 1 q 0 (omega arith) ∙ whole;
          people = people-step c r.h (history x) (history x) s.views id me.0 true (at, live)
              (λ n other free. subst (NoneOf n) more (none-append n r.h pair free
              (none-pair n me.0.number e (λ same. other (sym same)))))
              (λ n y other k. subst (λ z. HasSeen z n y) more
              (has-more r.h pair y n (none-pair n me.0.number e (λ same. other (sym same))) k))
              (λ n _. has-all (history x) n) r.people;
          lock = inr record {
            word = get_or-set_other s.words 1 0 q 0 (λ e. omega arith) ∙ k.word;
            home = k.home;
            who = id;
            holder = w;
            at = (set-found s.views id me.0 w at, live);
            holds = refl;
            only = each-set (λ j v. v.holds ≡ true → (j ≡ id) × (v.seen ≡ history x)) s.views id w (λ _. (refl, refl))
                (λ j v other there too. absurd (other ((k.only j v there too).0 ∙ sym mine.0)));
          };
        },
        λ y same. (refl, ap (λ (l : List (ℕ × Option S)). hold me.0 true (history (story_in x l))) (sym hand ∙ same)),
      ))
      r.lock

  pub allows-free : (slots id : ℕ) (me : M) (x : S) → me.1 ≡ (0, Some x) ∷ [] → me.0.holds ≡ true → me.0.is_live ≡ true
      → me.0.constant ≡ Some (constant x) → history x ≡ me.0.seen → length (history x) < 2 ^ 64
      → Allows Rule slots id me 0 (λ _. 0) (λ _. Frees (step slots 0 0 0 none) me 0)
  allows-free slots id me x hand on live told all fits s r wide at small = ⊎_elim
      (λ f. let off = f.none_holds id me.0 at in absurd (cc))
      (λ k.
      let w : View E C = hold me.0 false me.0.seen in
      let two = r.two in
      let was = r.people.told id me.0 (at, live) in
      let mine = k.only id me.0 at on in
      let same : constant x ≡ c = cc in
      let people = people-step c r.h r.h me.0.seen s.views id me.0 false (at, live) (λ n _ k. k) (λ n y _ k. k)
      (λ n k. k) r.people in
      let long : length r.h ≡ length (history x) = ap length (sym mine.1 ∙ sym all) in (
        w,
        gives,
        tt,
        record {
          h = r.h;
          two = length-set s.words 0 0 ∙ two;
          count = get_or-set_other s.words 0 1 0 0 (λ e. omega arith) ∙ r.count;
          people = people;
          lock = inl record {
            word = get_or-set_same s.words 0 0 0 (omega arith);
            story = x;
            home = λ i. homes_after (k.home i) (hand i) gives;
            is = all ∙ mine.1;
            same = same;
            none_holds = each-set (λ j v. v.holds ≡ false) s.views id w refl
                (λ j v other there. not-true v.holds (λ too. other ((k.only j v there too).0 ∙ sym mine.0)));
          };
        },
        (
          ap rest hand,
          refl,
          λ zero. is-tallied c r.h (set s.views id w) id w
              (set-found s.views id me.0 w at, live) zero people (omega arith) zero,
        ),
      ))
      r.lock

  pub allows-learn : (slots id : ℕ) (me : M) → me.0.number ≡ 0 → me.0.is_live ≡ true
      → Allows Rule slots id me 1 (λ n. n) (Learns (step slots 1 0 0 none) me)
  allows-learn slots id me zero live s r wide at small = let there : At s.views id me.0 = (at, live) in let count =
      r.count in (
        me.0,
        keeps,
        tt,
        subst Rule (λ i. record {
          words = sym (set-get_or s.words 1 0) i;
          homes = s.homes;
          views =
              sym (set_again s.views id me.0 at) i;
        }) r,
        (
          refl,
          refl,
          (r.people.first id me.0 there zero).met,
          is-tallied c r.h s.views id me.0 there zero r.people
              (omega arith),
        ),
      )

  pub allows-split : (id : ℕ) (v : View E C) → v.number ≡ 0 → v.is_live ≡ true → v.holds ≡ false
      → Splits Rule id v (view_after_split v) (view_split_off v)
  allows-split id v zero live off s r at =
      let w : View E C = view_after_split v in
      let one : View E C = view_split_off v in
      let vs : List (View E C) = set s.views id w in record {
        h = r.h;
        two = r.two;
        count = r.count;
        people = people-split c r.h s.views id v (at, live) zero r.people;
        lock = ⊎_elim
            (λ f. inl record {
              word = f.word;
              story = f.story;
              home = f.home;
              is = f.is;
              same = f.same;
              none_holds = each-end (λ j u. u.holds ≡ false) vs one refl
                  (each-set (λ j u. u.holds ≡ false) s.views id w off (λ j u _ there. f.none_holds j u there));
            })
            (λ k. inr record {
              word = k.word;
              home = k.home;
              who = k.who;
              holder = k.holder;
              at = (
                at_longer vs (one ∷ []) k.who k.holder
                    (set-kept s.views id k.who w k.holder (not-holder r.h s k id v at off) k.at.0),
                k.at.1,
              );
              holds = k.holds;
              only = each-end (λ j u. u.holds ≡ true → (j ≡ k.who) × (u.seen ≡ r.h)) vs one (λ on. absurd (cc))
                  (each-set (λ j u. u.holds ≡ true → (j ≡ k.who) × (u.seen ≡ r.h)) s.views id w (λ on. absurd (cc))
                  (λ j u _ there. k.only j u there));
            })
            r.lock;
      }

  pub allows-meet : (id : ℕ) (v : View E C) (other : ℕ) (w : View E C) → v.number ≡ 0 → v.is_live ≡ true
      → v.holds ≡ false
      → w.is_live ≡ true → w.holds ≡ false → Joins Rule id v other w (view_met_with v w) spent
  allows-meet id v other w zero live off live' off' s r at two there' =
      let m : View E C = view_met_with v w in
      let vs : List (View E C) = set s.views id m in
      let there : get_elem? s.views other ≡ some w = sym (set_else s.views id other m two) ∙ there' in record {
        h = r.h;
        two = r.two;
        count = r.count;
        people = people-met c r.h s.views id other v w (at, live) zero two (there, live') r.people;
        lock = ⊎_elim
            (λ f. inl record {
              word = f.word;
              story = f.story;
              home = f.home;
              is = f.is;
              same = f.same;
              none_holds = each-set (λ j u. u.holds ≡ false) vs other spent refl
                  (λ j u _. each-set (λ j u. u.holds ≡ false) s.views id m off
                  (λ j u _ found. f.none_holds j u found) j u);
            })
            (λ k. inr record {
              word = k.word;
              home = k.home;
              who = k.who;
              holder = k.holder;
              at = (
                set-kept vs other k.who spent k.holder (not-holder r.h s k other w there off')
                    (set-kept s.views id k.who m k.holder (not-holder r.h s k id v at off) k.at.0),
                k.at.1,
              );
              holds = k.holds;
              only = each-set (λ j u. u.holds ≡ true → (j ≡ k.who) × (u.seen ≡ r.h)) vs other spent (λ on. absurd (cc))
                  (λ j u _. each-set (λ j u. u.holds ≡ true → (j ≡ k.who) × (u.seen ≡ r.h)) s.views id m
                  (λ on. absurd (cc))
                  (λ j u _ found. k.only j u found) j u);
            })
            r.lock;
      }

  pub opens : (x : S) → constant x ≡ c → history x ≡ []
      → Rule (opening (0 ∷ 0 ∷ []) (Some x ∷ []) (newcomer 0 (Some c) []))
  opens x same empty = record {
    h = [];
    two = refl;
    count = refl;
    people = people-new c;
    lock = inl record {
      word = refl;
      story = x;
      home = refl;
      is = empty;
      same = same;
      none_holds = each-end (λ j v. v.holds ≡ false) [] (newcomer 0 (Some c) []) refl (λ j v e. absurd (cc));
    };
  }

  pub record Closed (v : View E C) (xs : List (Option S)) : Type 0 where
    pub story : S
    pub home : get_elem? xs 0 ≡ some (Some story)
    pub constant_is : v.constant ≡ Some (constant story)
    pub seen : history story ≡ v.seen

  pub closes : (id : ℕ) (v : View E C) (ws : List ℕ) (xs : List (Option S)) → v.is_live ≡ true → v.holds ≡ false
      → v.number ≡ 0
      → v.out ≡ 0 → Final (Seen Rule id v) ws xs → Closed v xs
  closes id v ws xs live off zero none_out (s, seen, same, long, values) =
      let r = seen.0 in
      let at : At s.views id v = (seen.1, live) in ⊎_elim
      (λ f. record {
        story = f.story;
        home = values 0 (Some f.story) (ap (λ hs. get_elem? hs 0) f.home);
        constant_is = r.people.told id v at ∙ ap Some (sym f.same);
        seen = f.is ∙ all-seen c r.h s.views id v at zero r.people none_out;
      })
      (λ k. absurd (let two = count-two s.views k.who id k.holder v k.at at (not-holder r.h s k id v seen.1 off) in
      let t = (r.people.first id v at zero).tally in omega arith))
      r.lock
