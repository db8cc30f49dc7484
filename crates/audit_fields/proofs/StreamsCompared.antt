-- Two streams are compared message by message.
use Rattle.std.proofs.Common.{◌≡◌, ℕ, ◌+◌, ◌≤◌, Bool, true, false, cond, List, [], ◌∷◌, ◌++◌, drop, Result, Ok, Err, Some, refl, sym, ap, subst, ◌∙◌, append_assoc, arith}
use Rattle.std.specs.Prelude.{if◌then◌else◌, ◌==◌}
use Rattle.std.specs.List.{AllByRecursion}
use Rattle.std.proofs.lemmas.List.{append_cancel_left}
use Rattle.std.proofs.lemmas.Bool.{ne_eqb}
use Rattle.wl_wire.specs.Messages.{IsPartial, messages, bad_size}
use Rattle.wl_wire.specs.declared.front.Front.{Front}
use Rattle.wl_wire.specs.declared.front.Front.TheVariants as front
use Rattle.wl_wire.specs.Fronts.{IsFrontMessage, HasMessages}
use Rattle.wl_proto.specs.declared.interface.Interface.TheVariants.{TextInput}
use Rattle.wl_proto.specs.Rows.{Message}
use Rattle.wl_proto.specs.Reading.{event_reading}
use Rattle.audit_fields.specs.Heard.{Heard, is_field_opcode, heard_by, heard, IsWell, IsLike}
use Rattle.audit_fields.specs.Passing.{IsPast, Tells, IsCompared}
use Rattle.audit_fields.proofs.MessagesPassed.{done_by, none_past, one_past, past_both, heard_behind, sized_behind, heard_none, heard_first}

-- ---- what a message says

pub says_one : (id opcode : ℕ) (body : List ℕ) → is_field_opcode opcode ≡ true →
    heard_by id opcode body ≡ record { id = id; reading = event_reading TextInput opcode [] body } ∷ []
says_one id opcode body is = rw is refl

pub says_none : (id opcode : ℕ) (body : List ℕ) → is_field_opcode opcode ≡ false → heard_by id opcode body ≡ []
says_none id opcode body is = rw is refl

pub each_left : (xs ys : List Heard) → AllByRecursion IsWell (xs ++ ys) → AllByRecursion IsWell xs
each_left [] ys h = tt
each_left (x ∷ xs) ys h = (h.0, each_left xs ys h.1)

pub each_right : (xs ys : List Heard) → AllByRecursion IsWell (xs ++ ys) → AllByRecursion IsWell ys
each_right [] ys h = h
each_right (x ∷ xs) ys h = each_right xs ys h.1

pub each_both : (xs ys : List Heard) → AllByRecursion IsWell xs → AllByRecursion IsWell ys →
    AllByRecursion IsWell (xs ++ ys)
each_both [] ys h k = k
each_both (x ∷ xs) ys h k = (h.0, each_both xs ys h.1 k)

-- ---- the next field message of what is told

pub tells_none : (told : List ℕ) → Tells told 0 []
tells_none told = record { count = 0; past = none_past told }

pub tells_next : (told rest body : List ℕ) (at id opcode size : ℕ) (hs said : List Heard) → Tells told at hs →
    rest ≡ drop at told → IsFrontMessage id opcode body rest size → hs ++ heard_by id opcode body ≡ said →
    Tells told (at + size) said
tells_next told rest body at id opcode size hs said t there f says = record {
  count = t.count + done_by opcode;
  past = one_past told rest body at id opcode size t.count _ hs said t.past there f says refl;
}

pub tells_both : (told rest : List ℕ) (at more : ℕ) (xs ys : List Heard) → Tells told at xs → rest ≡ drop at told →
    Tells rest more ys → Tells told (at + more) (xs ++ ys)
tells_both told rest at more xs ys t there u = record {
  count = t.count + u.count;
  past = past_both told rest at more t.count u.count xs ys t.past there u.past;
}

pub nothing_told : (told rest : List ℕ) (at : ℕ) → Tells told at [] → rest ≡ drop at told → messages rest ≡ [] →
    heard told ≡ []
nothing_told told rest at t there none =
    heard_behind told at t.count [] t.past ∙ ap heard (sym there) ∙ heard_none rest none

-- ---- the message that was sent, and the next that is told

-- what is told first is what it says
told_first : (told : List ℕ) (at : ℕ) (h mine : Heard) (rest : List Heard) → Tells told at (h ∷ []) →
    heard told ≡ mine ∷ rest → h ≡ mine
told_first told at h mine rest t says =
    let behind = heard_behind told at t.count (h ∷ []) t.past in
    cc

-- one with a malformed body
pub not_well : (id opcode : ℕ) (body : List ℕ) → is_field_opcode opcode ≡ true →
    ((m : Message) → event_reading TextInput opcode [] body ≡ Ok m → ⊥) →
    AllByRecursion IsWell (heard_by id opcode body) → ⊥
not_well id opcode body is none well =
    by (event_reading TextInput opcode [] body) refl (subst (AllByRecursion IsWell) (says_one id opcode body is) well).0
  where
    by : (r : Result Message _) → event_reading TextInput opcode [] body ≡ r →
        IsWell (record { id = id; reading = r }) → ⊥
    by (Ok m) e w = none m e
    by (Err why) e w = absurd cc

pub is_well : (id opcode : ℕ) (body : List ℕ) (m : Message) → event_reading TextInput opcode [] body ≡ Ok m →
    AllByRecursion IsWell (heard_by id opcode body)
is_well id opcode body m e = by (is_field_opcode opcode)
  where
    by : (b : Bool) → AllByRecursion IsWell
        (if b then record { id = id; reading = event_reading TextInput opcode [] body } ∷ [] else [])
    by true = (rw e refl, tt)
    by false = tt

-- nothing more is told
pub nothing_more : (told : List ℕ) (id opcode : ℕ) (body : List ℕ) (rest : List Heard) → is_field_opcode opcode ≡ true →
    heard told ≡ [] → heard told ≡ heard_by id opcode body ++ rest → ⊥
nothing_more told id opcode body rest is none says =
    let one = says_one id opcode body is in
    absurd cc

record AreSame (id opcode next_id next_opcode : ℕ) (body next_body : List ℕ) : Type 0 where
  ids : next_id ≡ id
  readings : event_reading TextInput next_opcode [] next_body ≡ event_reading TextInput opcode [] body

first_same : (told : List ℕ) (at id opcode next_id next_opcode : ℕ) (body next_body : List ℕ) (rest : List Heard) →
    is_field_opcode opcode ≡ true → is_field_opcode next_opcode ≡ true →
    Tells told at (heard_by next_id next_opcode next_body) → heard told ≡ heard_by id opcode body ++ rest →
    AreSame id opcode next_id next_opcode body next_body
first_same told at id opcode next_id next_opcode body next_body rest is next t says =
    let one = says_one id opcode body is in
    let tells = subst (Tells told at) (says_one next_id next_opcode next_body next) t in
    let first : heard told ≡ record { id = id; reading = event_reading TextInput opcode [] body } ∷ rest =
    says ∙ ap (λ (l : List Heard). l ++ rest) one in
    let same = told_first told at _ _ rest tells first in
    record { ids = ap (λ (h : Heard). h.id) same; readings = ap (λ (h : Heard). h.reading) same }

-- what is told next is malformed
pub other_malformed : (told : List ℕ) (at id opcode next_id next_opcode : ℕ) (body next_body : List ℕ) (m : Message)
    (rest : List Heard) → is_field_opcode opcode ≡ true → is_field_opcode next_opcode ≡ true →
    event_reading TextInput opcode [] body ≡ Ok m →
    ((x : Message) → event_reading TextInput next_opcode [] next_body ≡ Ok x → ⊥) →
    Tells told at (heard_by next_id next_opcode next_body) → heard told ≡ heard_by id opcode body ++ rest → ⊥
other_malformed told at id opcode next_id next_opcode body next_body m rest is next e none t says =
    let same = first_same told at id opcode next_id next_opcode body next_body rest is next t says in
    none m (same.readings ∙ e)

-- or has another id, or other values
pub other_id : (told : List ℕ) (at id opcode next_id next_opcode : ℕ) (body next_body : List ℕ)
    (rest : List Heard) → is_field_opcode opcode ≡ true → is_field_opcode next_opcode ≡ true →
    (next_id ≡ id → ⊥) → Tells told at (heard_by next_id next_opcode next_body) →
    heard told ≡ heard_by id opcode body ++ rest → ⊥
other_id told at id opcode next_id next_opcode body next_body rest is next differs t says =
    differs (first_same told at id opcode next_id next_opcode body next_body rest is next t says).ids

pub other_values : (told : List ℕ) (at id opcode next_id next_opcode : ℕ) (body next_body : List ℕ) (m x : Message)
    (rest : List Heard) → is_field_opcode opcode ≡ true → is_field_opcode next_opcode ≡ true →
    event_reading TextInput opcode [] body ≡ Ok m → event_reading TextInput next_opcode [] next_body ≡ Ok x →
    (m ≡ x → ⊥) → Tells told at (heard_by next_id next_opcode next_body) →
    heard told ≡ heard_by id opcode body ++ rest → ⊥
other_values told at id opcode next_id next_opcode body next_body m x rest is next e k differs t says =
    let same = first_same told at id opcode next_id next_opcode body next_body rest is next t says in
    differs (let s = same.readings in cc)

-- it is the same
pub same_told : (told : List ℕ) (at id opcode next_id next_opcode : ℕ) (body next_body : List ℕ) (m x : Message) →
    is_field_opcode opcode ≡ true → is_field_opcode next_opcode ≡ true → next_id ≡ id →
    event_reading TextInput opcode [] body ≡ Ok m → event_reading TextInput next_opcode [] next_body ≡ Ok x →
    m ≡ x → Tells told at (heard_by next_id next_opcode next_body) → Tells told at (heard_by id opcode body)
same_told told at id opcode next_id next_opcode body next_body m x is next ids e k same t =
    subst (Tells told at)
    (says_one next_id next_opcode next_body next
    ∙ rw (ids, k, e, same) refl
    ∙ sym (says_one id opcode body is)) t

-- ---- all that was sent

pub record IsOnWay (told sent : List ℕ) (gone at dones : ℕ) : Type 0 where
  pub hs : List Heard
  pub well : AllByRecursion IsWell hs
  pub sent-past : IsPast sent at hs dones
  pub told-past : Tells told gone hs
  pub few : dones ≤ at

pub begins : (told sent : List ℕ) → IsOnWay told sent 0 0 0
begins told sent =
    record { hs = []; well = tt; sent-past = none_past sent; told-past = tells_none told; few = omega arith }

pub goes_on : (told sent rest left body : List ℕ) (gone at dones used id opcode size count : ℕ) →
    IsOnWay told sent gone at dones →
    rest ≡ drop at sent → left ≡ drop gone told → IsFrontMessage id opcode body rest size →
    Tells left used (heard_by id opcode body) → AllByRecursion IsWell (heard_by id opcode body) →
    dones + done_by opcode ≡ count → IsOnWay told sent (gone + used) (at + size) count
goes_on told sent rest left body gone at dones used id opcode size count w there over f t well counts =
    let one : done_by opcode ≤ 1 = (λ (b : Bool). few_by b) (opcode == 5) in
    let few = w.few in
    let some = f.good.0 in
    record {
      hs = w.hs ++ heard_by id opcode body;
      well = each_both w.hs (heard_by id opcode body) w.well well;
      sent-past = one_past sent rest body at id opcode size dones count w.hs _ w.sent-past there f refl counts;
      told-past = tells_both told left gone used w.hs (heard_by id opcode body) w.told-past over t;
      few = omega arith;
    }
  where
    few_by : (b : Bool) → cond {A = ℕ} b 1 0 ≤ 1
    few_by true = omega arith
    few_by false = omega arith

pub compared : (told sent rest : List ℕ) (gone at dones : ℕ) → IsOnWay told sent gone at dones → rest ≡ drop at sent →
    IsPartial rest → IsCompared told sent (record { sent = at; told = gone; dones = dones })
compared told sent rest gone at dones w there part = record {
  hs = w.hs;
  well = w.well;
  sent-past = w.sent-past;
  told-past = w.told-past;
  part = subst IsPartial there part;
}

pub bad_front : (told sent rest : List ℕ) (gone at dones n : ℕ) → IsOnWay told sent gone at dones →
    rest ≡ drop at sent →
    bad_size rest ≡ Some n → IsLike told sent → ⊥
bad_front told sent rest gone at dones n w there bad like =
    let behind = sized_behind sent at dones w.hs w.sent-past in
    let sized = like.sized in
    let same = ap bad_size there in
    absurd cc

-- what both have behind the same front is alike
record IsLikeBehind (told rest : List ℕ) : Type 0 where
  well : AllByRecursion IsWell (heard rest)
  more : List Heard
  front : heard told ≡ heard rest ++ more

behind_like : (told sent : List ℕ) (gone at dones : ℕ) → IsOnWay told sent gone at dones → IsLike told sent →
    IsLikeBehind (drop gone told) (drop at sent)
behind_like told sent gone at dones w like =
    let said = heard_behind sent at dones w.hs w.sent-past in
    let tells = heard_behind told gone w.told-past.count w.hs w.told-past.past in
    record {
      well = each_right w.hs (heard (drop at sent)) (subst (AllByRecursion IsWell) said like.well);
      more = like.rest;
      front =
          append_cancel_left w.hs (heard (drop gone told)) (heard (drop at sent) ++ like.rest)
          (sym tells ∙ like.front ∙ ap (λ (l : List Heard). l ++ like.rest) said
          ∙ append_assoc w.hs (heard (drop at sent)) like.rest);
    }

pub unlike : (told sent rest left body : List ℕ) (gone at dones id opcode size : ℕ) → IsOnWay told sent gone at dones →
    rest ≡ drop at sent → left ≡ drop gone told → IsFrontMessage id opcode body rest size →
    ((more : List Heard) → AllByRecursion IsWell (heard_by id opcode body) →
    heard left ≡ heard_by id opcode body ++ more → ⊥) →
    IsLike told sent → ⊥
unlike told sent rest left body gone at dones id opcode size w there over f none like =
    let behind = behind_like told sent gone at dones w like in
    let first : heard (drop at sent) ≡ heard_by id opcode body ++ heard (drop size rest) =
    ap heard (sym there) ∙ heard_first rest body id opcode size f in
    none (heard (drop size rest) ++ behind.more)
    (each_left (heard_by id opcode body) (heard (drop size rest)) (subst (AllByRecursion IsWell) first behind.well))
    (ap heard over ∙ behind.front ∙ ap (λ (l : List Heard). l ++ behind.more) first
    ∙ append_assoc (heard_by id opcode body) (heard (drop size rest)) behind.more)

-- what is no whole message says nothing
pub front_none : (bytes : List ℕ) (f : Front) → ((raw : _) (used : ℕ) → f ≡ front.Whole raw used → ⊥) →
    HasMessages bytes f →
    messages bytes ≡ []
front_none bytes (front.Whole raw used) other h = absurd (other raw used refl)
front_none bytes front.Part other h = h.0
front_none bytes front.BadSize other h = h.0

-- a done is counted, and nothing else
pub counted_one : (dones opcode count : ℕ) → opcode ≡ 5 → count ≡ dones + 1 → dones + done_by opcode ≡ count
counted_one dones opcode count is counts = rw (is, counts) refl

pub counted_none : (dones opcode count : ℕ) → (opcode ≡ 5 → ⊥) → count ≡ dones → dones + done_by opcode ≡ count
counted_none dones opcode count other counts = rw (ne_eqb opcode 5 other, counts) (omega arith)
