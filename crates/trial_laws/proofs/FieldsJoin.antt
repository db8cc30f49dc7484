-- Each field's peer joins behind the method's, and its client begins with nothing heard.
use Rattle.std.proofs.Common.{◌≡◌, ℕ, zero, suc, ◌+◌, ◌≤◌, ◌<◌, Bool, true, false, List, [], ◌∷◌, ◌++◌, length, take, Some, refl, sym, ap, subst, ◌∙◌, arith, inl, inr, ◌⊎◌, length-append}
use Rattle.std.specs.Prelude.{if◌then◌else◌, nat_le}
use Rattle.std.specs.List.{slice_get}
use Rattle.std.proofs.lemmas.List.Sums.{count_by-le-length}
use Rattle.std.proofs.lemmas.Bool.{lt-leb, cases_lt}
use Rattle.relay_model.specs.declared.role.Role.{Role}
use Rattle.relay_model.specs.declared.role.Role.TheVariants.{App, Method}
use Rattle.relay_model.specs.Objects.{is_peer}
use Rattle.trial_field.specs.Log.{Entry}
use Rattle.broker_model.specs.declared.journal.Entry as journals
use Rattle.broker_model.specs.declared.journal.Entry.TheVariants as entries
use Rattle.broker_model.specs.Ids.{Joined, log_of, peer_at}
use Rattle.broker_model.specs.Limits.{is_full}
use Rattle.broker_model.specs.Out.{out_for}
use Rattle.broker_model.specs.Resolve.{past_of, with_joined}
use Rattle.broker_model.specs.Settle.{number_alive, settle}
use Rattle.broker_model.specs.Stamps.{no_stamp}
use Rattle.broker_core.specs.Broker.{with_step}
use Rattle.trial_run.specs.declared.whose.Whose.{Whose}
use Rattle.trial_run.specs.declared.whose.Whose.TheVariants as whose
use Rattle.trial_run.specs.Ran.{Ran, went, halted, ◌>>=◌}
use Rattle.trial_run.specs.Steps.{stepped, joined, next_bytes}
use Rattle.trial_run.specs.Play.{FieldPlay, TrialPlay, new_field, number_of, hears, sent}
use Rattle.trial_run.specs.Rounds.{with_broker, sends}
use Rattle.trial_run.specs.Trial.{method_joined, field_joined, fields_joined}
use Rattle.trial_run.proofs.FieldsChanged.{changed_length}
use Rattle.trial_laws.proofs.PhasesKeep.{IsSpoken, speaks_spoken, IsKept, take_entry, with_entry, sends_keep}
use Rattle.trial_laws.proofs.HeardInPieces.{HasHeard, is_new}
use Rattle.trial_laws.proofs.BytesTaken.{step_grows, step_joined, none_taken_yet}
use Rattle.trial_laws.proofs.FieldFollowed.{IsFollowed, entry_followed, followed}

-- ---- all fields

-- the method's peer joined, and then as many as there are fields, at most so many; each field is followed
pub record AreFollowed (own : ℕ → List Entry) (most : ℕ) (t : TrialPlay) : Type 0 where
  pub seated : length (past_of t.broker.journal).joined ≡ length t.fields + 1
  pub few : length t.fields ≤ most
  pub each : (k : ℕ) → k < length t.fields → IsFollowed k (own k) t

abbrev JoinedAre : ℕ → List Joined → Type 0
JoinedAre n joined = length joined ≡ n

spoken_joined : (e : journals.Entry) → IsSpoken e → (n : ℕ) (joined : List Joined) → with_joined e n joined ≡ joined
spoken_joined (entries.Message q id opcode body) s n joined = refl
spoken_joined (entries.Shell step) s n joined = refl
spoken_joined _ s n joined = absurd s

-- ---- what phases keep

hears_length : (who : Whose) (piece : List ℕ) (t : TrialPlay) → length (hears who piece t).fields ≡ length t.fields
hears_length whose.Method piece t = refl
hears_length (whose.Field k) piece t = changed_length k _ t.fields

sent_length : (who : Whose) (t : TrialPlay) → length (sent who t).fields ≡ length t.fields
sent_length whose.Method t = refl
sent_length (whose.Field k) t = changed_length k _ t.fields

hears_broker : (who : Whose) (piece : List ℕ) (t : TrialPlay) → (hears who piece t).broker ≡ t.broker
hears_broker whose.Method piece t = refl
hears_broker (whose.Field k) piece t = refl

sent_broker : (who : Whose) (t : TrialPlay) → (sent who t).broker ≡ t.broker
sent_broker whose.Method t = refl
sent_broker (whose.Field k) t = refl

pub all_followed : (own : ℕ → List Entry) (most : ℕ) → IsKept (AreFollowed own most)
all_followed own most = record {
  saying = λ e t s f h. record {
    seated =
        step_joined (JoinedAre (length t.fields + 1)) t.broker.limits.store e t.broker.journal
        (ap length (spoken_joined e (speaks_spoken t e s) (length t.broker.journal + 1)
        (past_of t.broker.journal).joined) ∙ h.seated);
    few = h.few;
    each = λ k l. (followed k (own k)).saying e t s f (h.each k l);
  };
  taking = λ who t f h.
      let piece : List ℕ = next_bytes (number_of who) t.broker in
      let mid : TrialPlay = with_entry (take_entry who t) t in
      let len = hears_length who piece mid in
      record {
        seated =
            ap (λ b. length (past_of b.journal).joined) (hears_broker who piece mid)
            ∙ step_joined (JoinedAre (length t.fields + 1)) t.broker.limits.store (take_entry who t)
            t.broker.journal h.seated
            ∙ ap (λ n. n + 1) (sym len);
        few = (let few = h.few in omega arith);
        each = λ k l. (followed k (own k)).taking who t f (h.each k (omega arith));
      };
  sending = λ who t h.
      let len = sent_length who t in
      record {
        seated =
            ap (λ b. length (past_of b.journal).joined) (sent_broker who t) ∙ h.seated ∙ ap (λ n. n + 1) (sym len);
        few = (let few = h.few in omega arith);
        each = λ k l. (followed k (own k)).sending who t (h.each k (omega arith));
      };
}

-- ---- a join

get_left : {A : Type 0} (xs ys : List A) (n : ℕ) (x : A) → slice_get xs n ≡ Some x → slice_get (xs ++ ys) n ≡ Some x
get_left [] ys n x e = (let no : slice_get [] n ≡ Some x = e in cc)
get_left (z ∷ xs) ys zero x e = e
get_left (z ∷ xs) ys (suc n) x e = get_left xs ys n x e

get_last : {A : Type 0} (xs : List A) (n : ℕ) (x : A) → n ≡ length xs → slice_get (xs ++ x ∷ []) n ≡ Some x
get_last [] n x e = subst (λ m. slice_get (x ∷ []) m ≡ Some x) (sym e) refl
get_last (z ∷ xs) zero x e = absurd (omega arith)
get_last (z ∷ xs) (suc n) x e = get_last xs n x (omega arith)

-- a peer joined
abbrev with_join : Role → TrialPlay → TrialPlay
with_join role t = with_entry (entries.Join role) t

abbrev pub new_peer : Role → TrialPlay → Joined
new_peer role t = record { label = length t.broker.journal + 1; role = role }

seated_more : (role : Role) (t : TrialPlay) (n : ℕ) → length (past_of t.broker.journal).joined ≡ n →
    length (past_of (with_join role t).broker.journal).joined ≡ n + 1
seated_more role t n e =
    step_joined (JoinedAre (n + 1)) t.broker.limits.store (entries.Join role) t.broker.journal
    (length-append (past_of t.broker.journal).joined (new_peer role t ∷ []) ∙ ap (λ m. m + 1) e)

pub joined_last : (role : Role) (t : TrialPlay) (k : ℕ) → length (past_of t.broker.journal).joined ≡ k + 1 →
    peer_at (past_of (with_join role t).broker.journal) (k + 2) ≡ Some (new_peer role t)
joined_last role t k e =
    let next : k + 2 ≡ suc (k + 1) = omega arith in
    ap (peer_at (past_of (with_join role t).broker.journal)) next
    ∙ step_joined (λ (all : List Joined). slice_get all (k + 1) ≡ Some (new_peer role t)) t.broker.limits.store
    (entries.Join role) t.broker.journal
    (get_last (past_of t.broker.journal).joined (k + 1) (new_peer role t) (sym e))

-- the field that comes with it
abbrev pub with_new : TrialPlay → TrialPlay
with_new t = record (with_join App t) { fields = t.fields ++ new_field ∷ [] }

pub last_field : (t : TrialPlay) → slice_get (with_new t).fields (length t.fields) ≡ Some new_field
last_field t = get_last t.fields (length t.fields) new_field refl

new_followed : (t : TrialPlay) → length (past_of t.broker.journal).joined ≡ length t.fields + 1 →
    IsFollowed (length t.fields) [] (with_new t)
new_followed t e =
    let store : ℕ = t.broker.limits.store in
    let p : ℕ = length t.broker.journal + 1 in
    let after : List journals.Entry = settle store (entries.Join App ∷ t.broker.journal) in
    let none : (out_for store after p).taken ≡ 0 =
    (step_grows store (entries.Join App) t.broker.journal p).taken
    ∙ ap (λ n. n + 0) (none_taken_yet store t.broker.journal p (omega arith)) in
    record {
      field = new_field;
      is = get_last t.fields (length t.fields) new_field refl;
      peer = new_peer App t;
      joined = joined_last App t (length t.fields) e;
      within = subst (λ n. n ≤ length (out_for store after p).put.bytes) (sym none) (omega arith);
      heard =
          subst (λ n. HasHeard (take n (out_for store after p).put.bytes) new_field.client []) (sym none) is_new;
    }

old_followed : (k : ℕ) (t : TrialPlay) → IsFollowed k [] t → IsFollowed k [] (with_new t)
old_followed k t h =
    let f = entry_followed k [] (entries.Join App) t h refl in
    record {
      field = f.field;
      is = get_left t.fields (new_field ∷ []) k f.field f.is;
      peer = f.peer;
      joined = f.joined;
      within = f.within;
      heard = f.heard;
    }

abbrev pub nobody_edits : ℕ → List Entry
nobody_edits k = []

new_each : (k : ℕ) (t : TrialPlay) (most : ℕ) → AreFollowed nobody_edits most t → k < length (with_new t).fields →
    IsFollowed k [] (with_new t)
new_each k t most h l = by (cases_lt k (length t.fields))
  where
    by : (k < length t.fields) ⊎ (length t.fields ≤ k) → IsFollowed k [] (with_new t)
    by (inl less) = old_followed k t (h.each k less)
    by (inr more) =
        let n = length-append t.fields (new_field ∷ []) in
        let same : length t.fields ≡ k = omega arith in
        subst (λ i. IsFollowed i [] (with_new t)) same (new_followed t h.seated)

with_new_followed : (most : ℕ) (t : TrialPlay) → AreFollowed nobody_edits most t →
    AreFollowed nobody_edits (most + 1) (with_new t)
with_new_followed most t h = record {
  seated =
      seated_more App t (length t.fields + 1) h.seated
      ∙ ap (λ n. n + 1) (sym (length-append t.fields (new_field ∷ [])));
  few = (let few = h.few in omega (arith, length-append t.fields (new_field ∷ [])));
  each = λ k l. new_each k t most h l;
}

more_room : (own : ℕ → List Entry) (few many : ℕ) (t : TrialPlay) → few ≤ many → AreFollowed own few t →
    AreFollowed own many t
more_room own few many t l h = record { seated = h.seated; few = (let f = h.few in omega arith); each = h.each }

-- so few are alive that one more can join
pub can_join : (t : TrialPlay) (n : ℕ) → length (past_of t.broker.journal).joined ≡ n → n < 64 →
    nat_le 64 (number_alive t.broker.journal) ≡ false
can_join t n e l =
    lt-leb 64 (number_alive t.broker.journal)
    (let c = count_by-le-length (λ (peer : Joined). is_peer (log_of (past_of t.broker.journal)) peer.label)
    (past_of t.broker.journal).joined in omega arith)

pub field_followed : (most : ℕ) (t : TrialPlay) → most < 16 → AreFollowed nobody_edits most t →
    AreFollowed nobody_edits (most + 1) (field_joined t).now
unfolding field_joined joined stepped
field_followed most t l h =
    by (nat_le 64 (number_alive t.broker.journal)) (is_full t.broker.limits t.broker.journal (entries.Join App))
    (can_join t (length t.fields + 1) h.seated (let few = h.few in omega arith))
  where
    by : (many full : Bool) → many ≡ false → AreFollowed nobody_edits (most + 1)
        (with_broker t (if many then went t.broker
        else (if full then halted t.broker else went (with_step (entries.Join App) no_stamp t.broker)))
        >>= (λ now. sends (whose.Field (length t.fields)) (record now { fields = now.fields ++ new_field ∷ [] }))).now
    by true full q = cc
    by false true q = more_room nobody_edits most (most + 1) t (omega arith) h
    by false false q =
        sends_keep (AreFollowed nobody_edits (most + 1)) (all_followed nobody_edits (most + 1))
        (whose.Field (length t.fields)) (with_new t) (with_new_followed most t h)

pub fields_followed : (n most : ℕ) (t : TrialPlay) → most + n ≤ 16 → AreFollowed nobody_edits most t →
    AreFollowed nobody_edits (most + n) (fields_joined n t).now
unfolding fields_joined
fields_followed zero most t l h = more_room nobody_edits most (most + zero) t (omega arith) h
fields_followed (suc n) most t l h =
    let one : AreFollowed nobody_edits (most + 1) (field_joined t).now = field_followed most t (omega arith) h in
    by (field_joined t).is_full one (fields_followed n (most + 1) (field_joined t).now (omega arith) one)
  where
    by : (full : Bool) → AreFollowed nobody_edits (most + 1) (field_joined t).now →
        AreFollowed nobody_edits ((most + 1) + n) (fields_joined n (field_joined t).now).now →
        AreFollowed nobody_edits (most + suc n)
        (if full then field_joined t else fields_joined n (field_joined t).now).now
    by true one k = more_room nobody_edits (most + 1) (most + suc n) (field_joined t).now (omega arith) one
    by false one k =
        more_room nobody_edits ((most + 1) + n) (most + suc n) (fields_joined n (field_joined t).now).now (omega arith)
        k

-- ---- the method

-- it joins first
pub method_followed : (t mid : TrialPlay) → t.broker.journal ≡ [] → t.fields ≡ [] → method_joined t ≡ went mid →
    AreFollowed nobody_edits 0 mid
unfolding method_joined joined stepped
method_followed t mid j f e =
    by (nat_le 64 (number_alive t.broker.journal)) (is_full t.broker.limits t.broker.journal (entries.Join Method))
    (can_join t 0 (ap (λ (l : List journals.Entry). length (past_of l).joined) j) (omega arith)) e
  where
    first : AreFollowed nobody_edits 0 (with_join Method t)
    first = record {
      seated =
          seated_more Method t 0 (ap (λ (l : List journals.Entry). length (past_of l).joined) j)
          ∙ ap (λ (l : List FieldPlay). length l + 1) (sym f);
      few = (let none = ap length f in omega arith);
      each = λ k l. absurd (let none = ap length f in omega arith);
    }

    by : (many full : Bool) → many ≡ false → (with_broker t (if many then went t.broker
        else (if full then halted t.broker else went (with_step (entries.Join Method) no_stamp t.broker)))
        >>= sends whose.Method) ≡ went mid → AreFollowed nobody_edits 0 mid
    by true full q w = cc
    by false true q w = absurd (let no : true ≡ false = ap (λ (r : Ran TrialPlay). r.is_full) w in cc)
    by false false q w =
        subst (λ (r : Ran TrialPlay). AreFollowed nobody_edits 0 r.now) w
        (sends_keep (AreFollowed nobody_edits 0) (all_followed nobody_edits 0) whose.Method (with_join Method t) first)
