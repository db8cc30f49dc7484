-- What stands of each object that was made, after every journal.
use Rattle.std.proofs.Common.{◌≡◌, ℕ, zero, suc, ◌+◌, ◌≤◌, List, [], ◌∷◌, ◌++◌, length, Bool, true, false, Option, Some, None, ap, refl, sym, ◌∙◌, subst, arith, inl, inr, ◌⊎◌}
use Rattle.std.specs.Prelude.{◌==◌, ◌&&◌, if◌then◌else◌, is_some}
use Rattle.std.specs.List.{slice_get}
use Rattle.std.proofs.lemmas.Bool.{ne_eqb, eq-eqb, eqb-true, true≢false}
use Rattle.std.proofs.lemmas.Option.{same_Some}
use Rattle.wl_proto.specs.declared.interface.Interface.TheVariants as interface
use Rattle.relay_model.specs.declared.act.Act.{Act}
use Rattle.relay_model.specs.declared.act.Act.TheVariants as acts
use Rattle.relay_model.specs.Objects.{Object, is_at, is_peer, owner, remains, object, alive, peer_of}
use Rattle.relay_model.proofs.ObjectLaws.{remains_none, object_step}
use Rattle.broker_model.specs.declared.journal.Entry.{Entry}
use Rattle.broker_model.specs.declared.journal.Entry.TheVariants as entries
use Rattle.broker_model.specs.Ids.{Made, Joined, Past, log_of, peer_in, named}
use Rattle.broker_model.specs.Resolve.{means, with_joined, past_of}
use Rattle.broker_model.specs.Out.{act_now}
use Rattle.broker_model.proofs.LivePeersJoined.{IsNumbered, numbered, length_log}
use Rattle.broker_model.proofs.FieldsHaveIds.{other_entry}
use Rattle.broker_model.proofs.IdsAreNames.{IsIn, named_on}
use Rattle.broker_model.proofs.MadeAtMostOne.{IsOne, AtMostOne, IsSound, AreSound, one_entry}

-- what lives after an act lived before it, and has its peer

lives_on : (act : Act) (x : ℕ) (o : Option Object) → is_some (remains act x o) ≡ true → is_some o ≡ true
lives_on act x None l = absurd (true≢false (sym l ∙ ap is_some (remains_none act x)))
lives_on act x (Some o) l = refl

owner_if : (b : Bool) (o : Option Object) → is_some (if b then None else o) ≡ true →
    owner (if b then None else o) ≡ owner o
owner_if true o l = cc
owner_if false o l = refl

owner_on : (act : Act) (x : ℕ) (o : Option Object) → is_some (remains act x o) ≡ true →
    owner (remains act x o) ≡ owner o
owner_on (acts.Drop y) x o l = owner_if (y == x) o l
owner_on (acts.Gone p cause) x o l = owner_if (is_at (owner o) p) o l
owner_on _ x o l = refl

pub lived : (act : Act) (log : List Act) (x : ℕ) → x ≤ length log → alive (act ∷ log) x ≡ true → alive log x ≡ true
lived act log x w l = lives_on act x (object log x) (sym (ap is_some (object_step act log x w)) ∙ l)

peer_stays : (act : Act) (log : List Act) (x : ℕ) → x ≤ length log → alive (act ∷ log) x ≡ true →
    peer_of (act ∷ log) x ≡ peer_of log x
peer_stays act log x w l =
    ap owner (object_step act log x w) ∙ owner_on act x (object log x) (sym (ap is_some (object_step act log x w)) ∙ l)

-- one entry more

unlike : (one m : Made) (c : Bool) (k : Option Made) → (one.peer ≡ m.peer → one.id ≡ m.id → ⊥) →
    (if (one.peer == m.peer) && (one.id == m.id) && c then Some one else k) ≡ k
unlike one m c k h = by (one.peer == m.peer) (one.id == m.id) refl refl
  where
    by : (a b : Bool) → (one.peer == m.peer) ≡ a → (one.id == m.id) ≡ b → (if a && b && c then Some one else k) ≡ k
    by true true qa qb = absurd (h (eqb-true one.peer m.peer qa) (eqb-true one.id m.id qb))
    by true false qa qb = refl
    by false b qa qb = refl

with_new : (later log : List Act) (made new : List Made) (n : ℕ) (act : Act) (m : Made) →
    (new ≡ []) ⊎ IsOne log made n act new →
    named log made m.peer m.id ≡ Some m → named later made m.peer m.id ≡ Some m →
    named later (new ++ made) m.peer m.id ≡ Some m
with_new later log made new n act m (inl none) was is = ap (λ ms. named later (ms ++ made) m.peer m.id) none ∙ is
with_new later log made new n act m (inr o) was is =
    ap (λ ms. named later (ms ++ made) m.peer m.id) o.is
    ∙ unlike o.one m (alive later o.one.label) (named later made m.peer m.id)
    (λ p i. (let e : Some m ≡ None = sym was ∙ (λ k. named log made (sym p k) (sym i k)) ∙ o.free in cc))
    ∙ is

sound_old : (e : Entry) (older : List Entry) (m : Made) →
    AreSound (log_of (past_of older)) (past_of older).made (length older) → IsIn (past_of older).made m →
    IsSound (log_of (past_of (e ∷ older))) (past_of (e ∷ older)).made (length older + 1) m
sound_old e older m all i =
    let log : List Act = log_of (past_of older) in
    let s : IsSound log (past_of older).made (length older) m = all m i in
    let within : m.label ≤ length older = s.within in
    let joined : m.peer ≤ length older = s.joined in
    let long : length log ≡ length older = length_log older in
    let w : m.label ≤ length log = omega arith in
    let other : (length older + 1 == m.label) ≡ false = ne_eqb (length older + 1) m.label (λ d. omega arith) in
    record {
      within = omega arith;
      joined = omega arith;
      known = other_entry e (length older + 1) (past_of older) (past_of older).made m.label other ∙ s.known;
      own = λ l. peer_stays (act_now e older) log m.label w l ∙ s.own (lived (act_now e older) log m.label w l);
      names = λ l.
          with_new (act_now e older ∷ log) log (past_of older).made (means e (length older + 1) (past_of older)).made
          (length older + 1)
          (means e (length older + 1) (past_of older)).act m (one_entry e older all)
          (s.names (lived (act_now e older) log m.label w l))
          (named_on log (act_now e older ∷ log) (past_of older).made m.peer m.id m
          (λ x j k. (let v : x.label ≤ length older = (all x j).within in
          lived (act_now e older) log x.label (omega arith) k)) l
          (s.names (lived (act_now e older) log m.label w l)));
    }

sound_new : (later log : List Act) (made : List Made) (n : ℕ) (act : Act) (new : List Made)
    (o : IsOne log made n act new) →
    (alive later o.one.label ≡ true → peer_of later o.one.label ≡ Some o.one.peer) →
    IsSound later (o.one ∷ made) n o.one
sound_new later log made n act new o own =
    let w : o.one.label ≡ n = o.label in
    record {
      within = omega arith;
      joined = o.peer;
      known = rw (eq-eqb o.one.label o.one.label refl) refl;
      own = own;
      names = λ l. rw (eq-eqb o.one.peer o.one.peer refl, eq-eqb o.one.id o.one.id refl, l) refl;
    }

own_new : (e : Entry) (older : List Entry)
    (o : IsOne (log_of (past_of older)) (past_of older).made (length older + 1)
    (means e (length older + 1) (past_of older)).act (means e (length older + 1) (past_of older)).made) →
    alive (log_of (past_of (e ∷ older))) o.one.label ≡ true →
    peer_of (log_of (past_of (e ∷ older))) o.one.label ≡ Some o.one.peer
own_new e older o l =
    let s : length (log_of (past_of older)) + 1 ≡ o.one.label = ap (λ n. n + 1) (length_log older) ∙ sym o.label in
    ap (peer_of (log_of (past_of (e ∷ older)))) (sym s) ∙ o.own (ap (alive (log_of (past_of (e ∷ older)))) s ∙ l)

sound_by : (e : Entry) (older : List Entry) (m : Made) →
    AreSound (log_of (past_of older)) (past_of older).made (length older) →
    AtMostOne (log_of (past_of older)) (past_of older).made (length older + 1)
    (means e (length older + 1) (past_of older)) →
    IsIn (past_of (e ∷ older)).made m →
    IsSound (log_of (past_of (e ∷ older))) (past_of (e ∷ older)).made (length older + 1) m
sound_by e older m all (inl none) i = sound_old e older m all (subst (λ ms. IsIn (ms ++ (past_of older).made) m) none i)
sound_by e older m all (inr o) i = among (subst (λ ms. IsIn (ms ++ (past_of older).made) m) o.is i)
  where
    among : (o.one ≡ m) ⊎ IsIn (past_of older).made m →
        IsSound (log_of (past_of (e ∷ older))) (past_of (e ∷ older)).made (length older + 1) m
    among (inl s) =
        subst (λ (u : Made). IsSound (log_of (past_of (e ∷ older))) (past_of (e ∷ older)).made (length older + 1) u) s
        (subst (λ ms. IsSound (log_of (past_of (e ∷ older))) (ms ++ (past_of older).made) (length older + 1) o.one)
        (sym o.is)
        (sound_new (log_of (past_of (e ∷ older))) (log_of (past_of older)) (past_of older).made (length older + 1) _ _ o
        (own_new e older o)))
    among (inr j) = sound_old e older m all j

pub sound : (journal : List Entry) → AreSound (log_of (past_of journal)) (past_of journal).made (length journal)
sound [] m i = absurd i
sound (e ∷ older) m i =
    let same : length older + 1 ≡ length (e ∷ older) = omega arith in
    subst (λ (n : ℕ). IsSound (log_of (past_of (e ∷ older))) (past_of (e ∷ older)).made n m) same
    (sound_by e older m (sound older) (one_entry e older (sound older)) i)

-- the display of a peer that joined was made

abbrev pub display_of : ℕ → Made
display_of p = record { peer = p; id = 1; label = p; interface = interface.Display }

abbrev HasJoined : List Joined → Joined → Type 0
HasJoined [] j = ⊥
HasJoined (x ∷ xs) j = (x ≡ j) ⊎ HasJoined xs j

has_got : (xs : List Joined) (k : ℕ) (j : Joined) → slice_get xs k ≡ Some j → HasJoined xs j
has_got [] k j e = cc
has_got (x ∷ xs) zero j e = inl (same_Some x j e)
has_got (x ∷ xs) (suc k) j e = inr (has_got xs k j e)

has_peer : (xs : List Joined) (q : ℕ) (j : Joined) → peer_in xs q ≡ Some j → HasJoined xs j
has_peer xs zero j e = cc
has_peer xs (suc q) j e = has_got xs q j e

has_split : (xs : List Joined) (y j : Joined) → HasJoined (xs ++ y ∷ []) j → HasJoined xs j ⊎ (y ≡ j)
has_split [] y j (inl e) = inr e
has_split [] y j (inr e) = absurd e
has_split (x ∷ xs) y j (inl e) = inl (inl e)
has_split (x ∷ xs) y j (inr h) =
    elim (has_split xs y j h) [
      | inl k ↦ inl (inr k)
      | inr e ↦ inr e
    ]

in_more : (new made : List Made) (m : Made) → IsIn made m → IsIn (new ++ made) m
in_more [] made m i = i
in_more (x ∷ new) made m i = inr (in_more new made m i)

shown_entry : (e : Entry) (n : ℕ) (past : Past) →
    ((j : Joined) → HasJoined past.joined j → IsIn past.made (display_of j.label)) →
    (j : Joined) → HasJoined (with_joined e n past.joined) j →
    IsIn ((means e n past).made ++ past.made) (display_of j.label)
shown_entry (entries.Join role) n past h j k =
    elim (has_split past.joined (record { label = n; role = role }) j k) [
      | inl old ↦ inr (h j old)
      | inr new ↦ inl (ap (λ (u : Joined). display_of u.label) new)
    ]
shown_entry (entries.Message q id opcode body) n past h j k =
    in_more (means (entries.Message q id opcode body) n past).made past.made _ (h j k)
shown_entry (entries.Tokens q tokens) n past h j k = h j k
shown_entry (entries.BadSize q head) n past h j k =
    in_more (means (entries.BadSize q head) n past).made past.made _ (h j k)
shown_entry (entries.End q why) n past h j k = in_more (means (entries.End q why) n past).made past.made _ (h j k)
shown_entry (entries.Shell step) n past h j k = h j k
shown_entry (entries.Took q bytes) n past h j k = in_more (means (entries.Took q bytes) n past).made past.made _ (h j k)

shown : (journal : List Entry) (j : Joined) → HasJoined (past_of journal).joined j →
    IsIn (past_of journal).made (display_of j.label)
shown [] j k = absurd k
shown (e ∷ older) j k = shown_entry e (length older + 1) (past_of older) (shown older) j k

pub displayed : (journal : List Entry) (p : ℕ) → is_peer (log_of (past_of journal)) p ≡ true →
    IsIn (past_of journal).made (display_of p)
displayed journal p l =
    let k : IsNumbered (past_of journal).joined p = numbered journal p l in
    subst (λ (x : ℕ). IsIn (past_of journal).made (display_of x)) k.labelled
    (shown journal k.peer (has_peer (past_of journal).joined k.number k.peer k.found))
