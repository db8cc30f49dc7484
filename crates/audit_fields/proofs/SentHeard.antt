-- What is heard of what was sent to one peer.
use Rattle.std.proofs.Common.{◌≡◌, ℕ, zero, suc, ◌<◌, ◌≤◌, Bool, true, false, List, [], ◌∷◌, ◌++◌, length, Option, Some, None, refl, sym, ap, subst, ◌∙◌, append-nil, arith}
use Rattle.std.specs.Prelude.{if◌then◌else◌, ◌==◌, IfOk, IfErr, Result, Ok, Err}
use Rattle.std.specs.List.{slice_get, slice_set}
use Rattle.std.proofs.lemmas.Bool.{eq-eqb, eqb-true}
use Rattle.std.proofs.lemmas.Option.{slice_get_past, slice_get_within}
use Rattle.broker_model.specs.declared.journal.Entry.{Entry}
use Rattle.broker_model.specs.Ids.{Joined, peer_at}
use Rattle.broker_model.specs.Resolve.{past_of}
use Rattle.broker_model.specs.Out.{out_for}
use Rattle.audit_fields.specs.declared.comparison.HearEnd.{HearEnd}
use Rattle.audit_fields.specs.declared.comparison.HearEnd.TheVariants as ends
use Rattle.audit_fields.specs.declared.side.Side.{Side}
use Rattle.audit_fields.specs.Gathering.{Gathering, is_app, is_app_in, is_gained}
use Rattle.audit_fields.specs.Going.{IsSide, IsGathered}
use Rattle.audit_fields.specs.Hearing.{IsHeardAt, IsUnheardAt, IsSent, IsHeardFor, IsHeardOf, IsUnlike}
use Rattle.audit_fields.proofs.SidesTold.{set_here, set_other, set_length}

-- what was sent to other peers than this is what it was
other_same : (number : ℕ) (bytes : List ℕ) (sent after : ℕ → List ℕ) (journal : List Entry) (k : ℕ) (peer : Joined) →
    IsSent number bytes journal sent after → slice_get (past_of journal).joined k ≡ Some peer →
    (number == suc k) ≡ false →
    after (suc k) ≡ sent (suc k)
other_same number bytes sent after journal k peer s b e =
    s.joined (suc k) peer b ∙ ap (λ (t : Bool). sent (suc k) ++ (if t then bytes else [])) e ∙ append-nil (sent (suc k))

own_more : (number : ℕ) (bytes : List ℕ) (sent after : ℕ → List ℕ) (journal : List Entry) (k : ℕ) (peer : Joined) →
    IsSent number bytes journal sent after → slice_get (past_of journal).joined k ≡ Some peer →
    (number == suc k) ≡ true →
    after (suc k) ≡ sent (suc k) ++ bytes
own_more number bytes sent after journal k peer s b e =
    s.joined (suc k) peer b ∙ ap (λ (t : Bool). sent (suc k) ++ (if t then bytes else [])) e

side_as : (capacity : ℕ) (journal : List Entry) (sent after : List ℕ) (peer : Joined) (side : Side) → after ≡ sent →
    IsSide capacity journal sent peer side → IsSide capacity journal after peer side
side_as capacity journal sent after peer side same s =
    subst (λ (l : List ℕ). IsSide capacity journal l peer side) (sym same) s

-- nobody hears them
nobody_gathered : (capacity number : ℕ) (bytes : List ℕ) (sent after : ℕ → List ℕ) (journal : List Entry)
    (g : Gathering) →
    IsGathered capacity sent journal g → IsSent number bytes journal sent after →
    ((k : ℕ) → number ≡ suc k → is_app_in (slice_get g.sides k) ≡ false) → IsGathered capacity after journal g
nobody_gathered capacity number bytes sent after journal g f s none = record {
  number = f.number;
  each = λ k side peer a b. each_by k side peer a b (number == suc k) refl;
  dry = f.dry;
  silent = λ k l. s.others (suc k) (slice_get_past (past_of journal).joined k l);
}
  where
    each_by : (k : ℕ) (side : Side) (peer : Joined) → slice_get g.sides k ≡ Some side →
        slice_get (past_of journal).joined k ≡ Some peer → (b : Bool) → (number == suc k) ≡ b →
        IsSide capacity journal (after (suc k)) peer side
    each_by k side peer a b true e =
        let was = f.each k side peer a b in
        let here : number ≡ suc k = eqb-true number (suc k) e in
        let no : side.is_app ≡ false = ap is_app_in (sym a) ∙ none k here in
        record { role = was.role; follows = λ app. absurd (let x = sym no ∙ app in cc) }
    each_by k side peer a b false e =
        side_as capacity journal (sent (suc k)) (after (suc k)) peer side
        (other_same number bytes sent after journal k peer s b e) (f.each k side peer a b)

pub heard_zero : (capacity number : ℕ) (bytes : List ℕ) (sent after : ℕ → List ℕ) (journal : List Entry)
    (g : Gathering) →
    (1 ≤ number → ⊥) → IsGathered capacity sent journal g → IsSent number bytes journal sent after →
    IsHeardOf capacity number bytes journal sent 0 after g
heard_zero capacity number bytes sent after journal g none f s =
    let is : number ≡ 0 = zero_is number none in
    record {
      heard = subst (λ q. IsHeardFor capacity q bytes journal sent 0 (peer_at (past_of journal) q)) (sym is) refl;
      gathered = nobody_gathered capacity number bytes sent after journal g f s (λ k e. absurd (omega (arith, e, is)));
    }
  where
    zero_is : (n : ℕ) → (1 ≤ n → ⊥) → n ≡ 0
    zero_is zero none = refl
    zero_is (suc n) none = absurd (none (omega arith))

-- no application that joined is there
no_app : (capacity k : ℕ) (bytes : List ℕ) (sent : ℕ → List ℕ) (journal : List Entry) (g : Gathering)
    (o : Option Joined) →
    IsGathered capacity sent journal g → slice_get (past_of journal).joined k ≡ o →
    is_app_in (slice_get g.sides k) ≡ false →
    IsHeardFor capacity (suc k) bytes journal sent 0 o
no_app capacity k bytes sent journal g None f at none = refl
no_app capacity k bytes sent journal g (Some peer) f at none = by (slice_get g.sides k) refl
  where
    by : (o : Option Side) → slice_get g.sides k ≡ o → IsHeardFor capacity (suc k) bytes journal sent 0 (Some peer)
    by None e =
        let within = slice_get_within (past_of journal).joined k peer at in
        let same = f.number in
        absurd (past g.sides k e (omega arith))
      where
        past : (xs : List Side) (i : ℕ) → slice_get xs i ≡ None → i < length xs → ⊥
        past [] i e l = omega (arith, l)
        past (x ∷ xs) zero e l = cc
        past (x ∷ xs) (suc i) e l = past xs i e (omega (arith, l))
    by (Some side) e =
        let role : side.is_app ≡ is_app peer.role = (f.each k side peer e at).role in
        let no : is_app peer.role ≡ false = sym role ∙ ap is_app_in (sym e) ∙ none in
        (λ app. absurd (let x = sym no ∙ app in cc), λ other. refl)

pub heard_nobody : (capacity number k : ℕ) (bytes : List ℕ) (sent after : ℕ → List ℕ) (journal : List Entry)
    (g : Gathering) →
    number ≡ suc k → is_app_in (slice_get g.sides k) ≡ false → IsGathered capacity sent journal g →
    IsSent number bytes journal sent after → IsHeardOf capacity number bytes journal sent 0 after g
heard_nobody capacity number k bytes sent after journal g is none f s = record {
  heard =
      subst (λ q. IsHeardFor capacity q bytes journal sent 0 (peer_at (past_of journal) q)) (sym is)
      (no_app capacity k bytes sent journal g (slice_get (past_of journal).joined k) f refl none);
  gathered = nobody_gathered capacity number bytes sent after journal g f s none_at;
}
  where
    none_at : (j : ℕ) → number ≡ suc j → is_app_in (slice_get g.sides j) ≡ false
    none_at j e =
        let same : k ≡ j = (let a = is in omega (arith, e, a)) in
        ap (λ i. is_app_in (slice_get g.sides i)) (sym same) ∙ none

-- an application heard them
heard_peer : (capacity k n : ℕ) (bytes : List ℕ) (sent : ℕ → List ℕ) (journal : List Entry) (g : Gathering)
    (sides : List Side)
    (o : Option Joined) → IsHeardAt k bytes n g.sides sides → is_app_in (slice_get g.sides k) ≡ true →
    IsGathered capacity sent journal g → slice_get (past_of journal).joined k ≡ o →
    IsHeardFor capacity (suc k) bytes journal sent n o
heard_peer capacity k n bytes sent journal g sides None h app f at =
    let within = slice_get_within g.sides k h.side h.at in
    let same = f.number in
    absurd (past (past_of journal).joined k at (omega arith))
  where
    past : (xs : List Joined) (i : ℕ) → slice_get xs i ≡ None → i < length xs → ⊥
    past [] i e l = omega (arith, l)
    past (x ∷ xs) zero e l = cc
    past (x ∷ xs) (suc i) e l = past xs i e (omega (arith, l))
heard_peer capacity k n bytes sent journal g sides (Some peer) h app f at =
    let was = f.each k h.side peer h.at at in
    let is-app : h.side.is_app ≡ true = ap is_app_in (sym h.at) ∙ app in
    let all = h.heard (out_for capacity journal peer.label).put.bytes (sent (suc k)) (was.follows is-app) in
    (λ x. record { like = all.like; counted = all.counted }, λ no. absurd (let r = sym was.role ∙ is-app in cc))

pub heard_app : (capacity number k n : ℕ) (bytes : List ℕ) (sent after : ℕ → List ℕ) (journal : List Entry)
    (g h : Gathering) →
    number ≡ suc k → is_app_in (slice_get g.sides k) ≡ true → IsHeardAt k bytes n g.sides h.sides →
    h.gained ≡ g.gained →
    IsGathered capacity sent journal g → IsSent number bytes journal sent after →
    IsHeardOf capacity number bytes journal sent n after h
heard_app capacity number k n bytes sent after journal g h is app a same f s = record {
  heard =
      subst (λ q. IsHeardFor capacity q bytes journal sent n (peer_at (past_of journal) q)) (sym is)
      (heard_peer capacity k n bytes sent journal g h.sides (slice_get (past_of journal).joined k) a app f refl);
  gathered = record {
    number = ap (λ (l : List Side). length l) a.is ∙ set_length k g.sides new ∙ f.number;
    each = λ j side peer at b. each_by j side peer at b (number == suc j) refl;
    dry = λ q peer at none. f.dry q peer at (ap (λ (l : List ℕ). is_gained q l) (sym same) ∙ none);
    silent = λ j l. s.others (suc j) (slice_get_past (past_of journal).joined j l);
  };
}
  where
    new : Side
    new = record a.side { streams = a.streams }

    each_by : (j : ℕ) (side : Side) (peer : Joined) → slice_get h.sides j ≡ Some side →
        slice_get (past_of journal).joined j ≡ Some peer → (b : Bool) → (number == suc j) ≡ b →
        IsSide capacity journal (after (suc j)) peer side
    each_by j side peer at b true e =
        let here : k ≡ j = (let x = eqb-true number (suc j) e in let y = is in omega (arith, x, y)) in
        let old : slice_get g.sides j ≡ Some a.side = ap (slice_get g.sides) (sym here) ∙ a.at in
        let was = f.each j a.side peer old b in
        let more : after (suc j) ≡ sent (suc j) ++ bytes = own_more number bytes sent after journal j peer s b e in
        let within = slice_get_within g.sides k a.side a.at in
        let becomes : slice_get h.sides j ≡ Some (record a.side { streams = a.streams }) =
        ap (λ (l : List Side). slice_get l j) a.is
        ∙ ap (slice_get (slice_set g.sides k (record a.side { streams = a.streams }))) (sym here)
        ∙ set_here k g.sides (record a.side { streams = a.streams }) within in
        let is-side : record a.side { streams = a.streams } ≡ side = (let x = sym becomes ∙ at in cc) in
        subst (λ (x : Side). IsSide capacity journal (after (suc j)) peer x) is-side
        (subst (λ (l : List ℕ). IsSide capacity journal l peer (record a.side { streams = a.streams })) (sym more)
        (record {
          role = was.role;
          follows = λ app.
              (a.heard (out_for capacity journal peer.label).put.bytes (sent (suc j)) (was.follows app)).follows;
        }))
    each_by j side peer at b false e =
        let differs : k ≡ j → ⊥ = λ x. (let no = sym (eq-eqb number (suc j) (is ∙ ap suc x)) ∙ e in cc) in
        let old : slice_get g.sides j ≡ Some side =
        sym (ap (λ (l : List Side). slice_get l j) a.is
        ∙ set_other k j g.sides (record a.side { streams = a.streams }) differs) ∙ at in
        side_as capacity journal (sent (suc j)) (after (suc j)) peer side
        (other_same number bytes sent after journal j peer s b e) (f.each j side peer old b)

-- or it didn't, and why
unlike_peer : (capacity k : ℕ) (bytes : List ℕ) (sent : ℕ → List ℕ) (journal : List Entry) (g : Gathering)
    (why : HearEnd)
    (o : Option Joined) → IsUnheardAt k bytes g.sides why → is_app_in (slice_get g.sides k) ≡ true →
    IsGathered capacity sent journal g → slice_get (past_of journal).joined k ≡ o →
    IsUnlike capacity (suc k) bytes journal sent why
unlike_peer capacity k bytes sent journal g ends.NoMemory o h app f at = tt
unlike_peer capacity k bytes sent journal g ends.Unlike None h app f at =
    let within = slice_get_within g.sides k h.side h.at in
    let same = f.number in
    absurd (past (past_of journal).joined k at (omega arith))
  where
    past : (xs : List Joined) (i : ℕ) → slice_get xs i ≡ None → i < length xs → ⊥
    past [] i e l = omega (arith, l)
    past (x ∷ xs) zero e l = cc
    past (x ∷ xs) (suc i) e l = past xs i e (omega (arith, l))
unlike_peer capacity k bytes sent journal g ends.Unlike (Some peer) h app f at =
    let was = f.each k h.side peer h.at at in
    let is-app : h.side.is_app ≡ true = ap is_app_in (sym h.at) ∙ app in
    record {
      peer = peer;
      joined = at;
      app = sym was.role ∙ is-app;
      unlike = h.unheard (out_for capacity journal peer.label).put.bytes (sent (suc k)) (was.follows is-app);
    }

pub unlike_app : (capacity number k : ℕ) (bytes : List ℕ) (sent : ℕ → List ℕ) (journal : List Entry) (g : Gathering)
    (why : HearEnd) →
    number ≡ suc k → is_app_in (slice_get g.sides k) ≡ true → IsUnheardAt k bytes g.sides why →
    IsGathered capacity sent journal g → IsUnlike capacity number bytes journal sent why
unlike_app capacity number k bytes sent journal g why is app h f =
    subst (λ q. IsUnlike capacity q bytes journal sent why) (sym is)
    (unlike_peer capacity k bytes sent journal g why (slice_get (past_of journal).joined k) h app f refl)

-- the same by what was answered: those at the call, lent as these, and those after it
pub heard_all : (number k : ℕ) (bytes : List ℕ) (gained : List ℕ) (short : Bool) (g : Gathering)
    (inside lent sides : List Side)
    (r : Result ℕ HearEnd) → number ≡ suc k → inside ≡ g.sides → is_app_in (slice_get inside k) ≡ true → lent ≡ inside →
    gained ≡ g.gained → IfOk r (λ n. IsHeardAt k bytes n lent sides) →
    IfOk r (λ n. (capacity : ℕ) (sent later : ℕ → List ℕ) (journal : List Entry) → IsGathered capacity sent journal g →
    IsSent number bytes journal sent later →
    IsHeardOf capacity number bytes journal sent n later (record { sides = sides; gained = gained; is_short = short }))
heard_all number k bytes gained short g inside lent sides (Ok n) is same app lends kept h =
    λ capacity sent later journal f s.
    heard_app capacity number k n bytes sent later journal g
    (record { sides = sides; gained = gained; is_short = short }) is
    (subst (λ (l : List Side). is_app_in (slice_get l k) ≡ true) same app)
    (subst (λ (l : List Side). IsHeardAt k bytes n l sides) (lends ∙ same) h) kept f s
heard_all number k bytes gained short g inside lent sides (Err why) is same app lends kept h = tt

pub unlike_all : (number k : ℕ) (bytes : List ℕ) (g : Gathering) (inside lent : List Side) (r : Result ℕ HearEnd) →
    number ≡ suc k →
    inside ≡ g.sides → is_app_in (slice_get inside k) ≡ true → lent ≡ inside → IfErr r (IsUnheardAt k bytes lent) →
    IfErr r (λ why. (capacity : ℕ) (sent : ℕ → List ℕ) (journal : List Entry) → IsGathered capacity sent journal g →
    IsUnlike capacity number bytes journal sent why)
unlike_all number k bytes g inside lent (Ok n) is same app lends h = tt
unlike_all number k bytes g inside lent (Err why) is same app lends h = λ capacity sent journal f.
    unlike_app capacity number k bytes sent journal g why is
    (subst (λ (l : List Side). is_app_in (slice_get l k) ≡ true) same app)
    (subst (λ (l : List Side). IsUnheardAt k bytes l why) (lends ∙ same) h) f

pub heard_as : (k : ℕ) (bytes : List ℕ) (lent sides other : List Side) (r : Result ℕ HearEnd) → sides ≡ other →
    IfOk r (λ n. IsHeardAt k bytes n lent sides) → IfOk r (λ n. IsHeardAt k bytes n lent other)
heard_as k bytes lent sides other r same h =
    subst (λ (l : List Side). IfOk r (λ n. IsHeardAt k bytes n lent l)) same h
