-- The surface that an id of a peer names, as a live peer's table has it.
use Rattle.std.proofs.Common.{◌≡◌, ℕ, List, Bool, true, false, Option, Some, None, ap, refl, sym, ◌∙◌, ◌<◌, ◌≤◌, [], length, IsSome, IfSome, subst, zero, suc, ◌+◌, ◌∷◌}
use Rattle.std.specs.Prelude.{if◌then◌else◌, option_map, slice_index_or, filter, Result, IfOk}
use Rattle.std.specs.FinMap as map
use Rattle.std.proofs.lemmas.Bool.{true≢false}
use Rattle.wl_proto.specs.declared.interface.Interface.{Interface}
use Rattle.wl_proto.specs.declared.interface.Interface.TheVariants as interface
use Rattle.relay_model.specs.Objects.{is_peer, peer_of}
use Rattle.relay_model.proofs.ActsOrIdle.{history_is}
use Rattle.broker_model.specs.declared.journal.Entry.{Entry}
use Rattle.broker_model.specs.Ids.{Made, Joined, Past, log_of, peer_at, object_at}
use Rattle.broker_model.specs.Refusals.{is_interface}
use Rattle.broker_model.specs.Resolve.{surface_in, surface_at, past_of, resolve, Meaning, of_peer, of_message, means}
use Rattle.broker_model.specs.Waiting.{takes_token}
use Rattle.broker_model.proofs.IdsAreNames.{IsFound, found}
use Rattle.broker_model.proofs.MadeObjectsStand.{sound}
use Rattle.broker_model.proofs.FewTokensWait.{few_wait}
use Rattle.broker_wire.specs.Meant.{IsTableOf, meant}
use Rattle.broker_wire.proofs.TableIsJournals.{table_of}
use Rattle.broker_audience.specs.declared.live.Live.{Live}
use Rattle.broker_core.specs.declared.state.State.{State}
use Rattle.broker_audience.specs.Lives.{number_of, is_number}
use Rattle.broker_core.specs.Stands.{Stands, IsLive}
use Rattle.broker_model.proofs.OwnersLive.{owner_lives}
use Rattle.broker_core.proofs.ReadyForEnd.{of_number}
use Rattle.broker_core.proofs.RosterAfterEntry.{at_number, is_there, each_alive}
use Rattle.std.specs.List.{slice_get, AllByRecursion}
use Rattle.std.proofs.lemmas.Option.{same_Some, slice_get_read}
use Rattle.broker_audience.proofs.PlaceByNumber.{nobody_found}
use Rattle.std.proofs.lemmas.Result.{IfOk-weaker}
use Rattle.wio_core.specs.declared.NoMemory.{NoMemory}
use Rattle.relay_core.specs.Stands as relay
use Rattle.broker_wire.specs.declared.meaning.Meaning as declared
use Rattle.broker_model.specs.declared.journal.Entry.TheVariants as entries

-- an id of who is no live peer names nothing

named_by : (journal : List Entry) (p id : ℕ) (o : Option Made) → is_peer (log_of (past_of journal)) p ≡ false →
    object_at (past_of journal) p id ≡ o → o ≡ None
named_by journal p id None dead e = refl
named_by journal p id (Some x) dead e =
    let f : IsFound (log_of (past_of journal)) (past_of journal).made p id x =
    found (log_of (past_of journal)) (past_of journal).made p id x e in
    let own : peer_of (log_of (past_of journal)) x.label ≡ Some x.peer = (sound journal x f.among).own f.lives in
    let lives : is_peer (log_of (past_of journal)) x.peer ≡ true =
    owner_lives (log_of (past_of journal)) x.label x.peer (history_is (resolve journal)) own in
    absurd (true≢false (sym lives ∙ ap (is_peer (log_of (past_of journal))) f.peer ∙ dead))

pub dead_names_nothing : (journal : List Entry) (p id : ℕ) → is_peer (log_of (past_of journal)) p ≡ false →
    object_at (past_of journal) p id ≡ None
dead_names_nothing journal p id dead = named_by journal p id (object_at (past_of journal) p id) dead refl

-- so a number that no live peer has names no surface
pub surface_found : (s : State) → Stands s → (q : ℕ) → number_of q s.audience.live.items ≡ None → (id : ℕ) →
    surface_at (past_of s.journal.entries) (peer_at (past_of s.journal.entries) q) id ≡ None
surface_found s v q none id = by (peer_at past q) refl
  where
    past : Past
    past = past_of s.journal.entries

    by_life : (peer : Joined) (b : Bool) → peer_at past q ≡ Some peer → is_peer (log_of past) peer.label ≡ b →
        surface_in (object_at past peer.label id) ≡ None
    by_life peer true e life =
        let there = is_there s.journal.entries s.audience.live.items v.who q peer e life in
        let clash : None ≡ Some there.0 = sym none ∙ there.1 in
        cc
    by_life peer false e life = ap surface_in (dead_names_nothing s.journal.entries peer.label id life)

    by : (o : Option Joined) → peer_at past q ≡ o → surface_at past o id ≡ None
    by None e = refl
    by (Some peer) e = by_life peer (is_peer (log_of past) peer.label) e refl

-- the label of what a table has under an id, where it is a surface
abbrev pub surface_under : Option (Interface × ℕ) → Option ℕ
surface_under None = None
surface_under (Some o) = (if is_interface o.0 interface.Surface then Some o.1 else None)

surface_same : (o : Option Made) → surface_in o ≡ surface_under (option_map (λ (m : Made). (m.interface, m.label)) o)
surface_same None = refl
surface_same (Some m) = refl

-- a live peer's table has it
pub surface_of_live : (s : State) → Stands s → (q id : ℕ) (l : Live) → number_of q s.audience.live.items ≡ Some l →
    surface_at (past_of s.journal.entries) (peer_at (past_of s.journal.entries) q) id
    ≡ surface_under (map.get l.table.under id)
surface_of_live s v q id l e =
    let journal : List Entry = s.journal.entries in
    let own = at_number journal s.audience.live.items v.who q l e in
    let is : IsLive s.capacity journal l = of_number (IsLive s.capacity journal) q l s.audience.live.items v.live e in
    let its : IsTableOf (past_of journal) l.label l.table = table_of journal l.label l.table own.1 is.table in
    ap (λ (o : Option Joined). surface_at (past_of journal) o id) own.0
    ∙ surface_same (object_at (past_of journal) l.label id)
    ∙ ap surface_under (sym (its.by_id id))

-- What the code finds at the place of a number is the peer with the number.

pub record IsFoundAt (q place : ℕ) (live : List Live) (l : Live) : Type 0 where
  pub here : slice_get live place ≡ Some l
  pub numbered : number_of q live ≡ Some l

pub found_at : (q place : ℕ) (searched live : List Live) (l : Live) → searched ≡ live →
    slice_get searched place ≡ number_of q searched →
    place < length searched → l ≡ slice_index_or live place l → IsFoundAt q place live l
found_at q place searched live l same first within is =
    let here : slice_get live place ≡ Some l =
    slice_get_read live (length live) place l refl (subst (λ (ls : List Live). place < length ls) same within) is in
    record {
      here = here;
      numbered = sym (subst (λ (ls : List Live). slice_get ls place ≡ number_of q ls) same first) ∙ here;
    }

-- somebody with the number is there
pub somebody : (q : ℕ) (live : List Live) (o : Option Live) → number_of q live ≡ o → IsSome o →
    (l : Live) × (number_of q live ≡ Some l)
somebody q live None e h = cc
somebody q live (Some l) e h = (l, e)

pub found_there : (q place : ℕ) (searched live : List Live) (l : Live) → searched ≡ live →
    slice_get searched place ≡ number_of q searched →
    number_of q live ≡ Some l → IsFoundAt q place live l
found_there q place searched live l same first is = record {
  here = subst (λ (ls : List Live). slice_get ls place ≡ number_of q ls) same first ∙ is;
  numbered = is;
}

-- what is said of what is found
pub of_found : {A : Type 0} (P : A → Type 0) (o : Option A) (x : A) → o ≡ Some x → IfSome o P → P x
of_found P o x e h = subst (λ u. IfSome u P) e h

pub to_found : {A : Type 0} (P : A → Type 0) (o : Option A) (x : A) → o ≡ Some x → P x → IfSome o P
to_found P o x e h = subst (λ u. IfSome u P) (sym e) h

-- where nobody has the number, no live peer has it
pub not_nobody : (q : ℕ) (searched live : List Live) → searched ≡ live → filter (is_number q) searched ≡ [] →
    IsSome (number_of q live) → ⊥
not_nobody q searched live same none some =
    let no : number_of q live ≡ None = ap (number_of q) (sym same) ∙ nobody_found q searched none in
    true≢false (sym (subst IsSome no some))

-- The live peer at a place: the surface that an id of it names, and what a message of it means.

-- what holds of each live peer holds of the one at a place
pub at_place : (P : Live → Type 0) (place : ℕ) (live : List Live) (l : Live) → AllByRecursion P live →
    slice_get live place ≡ Some l → P l
at_place P place [] l p e = cc
at_place P zero (x ∷ rest) l p e = subst P (same_Some x l e) p.0
at_place P (suc place) (x ∷ rest) l p e = at_place P place rest l p.1 e

-- the surface that an id of the peer with the number names, where that peer was found at a place of what is shown of
-- all
pub surface_at_place : (s : State) → Stands s → (q id place : ℕ) (l : Live) (shown : List Live) →
    shown ≡ s.audience.live.items →
    place < length shown → slice_get shown place ≡ number_of q shown →
    l ≡ slice_index_or s.audience.live.items place l →
    surface_at (past_of s.journal.entries) (peer_at (past_of s.journal.entries) q) id
    ≡ surface_under (map.get l.table.under id)
surface_at_place s v q id place l shown same within first read =
    let all : List Live = s.audience.live.items in
    let inside : place < length all = subst (λ (live : List Live). place < length live) same within in
    let found : slice_get all place ≡ number_of q all =
    subst (λ (live : List Live). slice_get live place ≡ number_of q live) same first in
    surface_of_live s v q id l (sym found ∙ slice_get_read all (length all) place l refl inside read)

-- what was found is the same by another name
same_found : {A : Type 0} (told : declared.Meaning → A) (found : Result declared.Meaning NoMemory) (x y : A) → y ≡ x →
    IfOk found (λ m. told m ≡ x) → IfOk found (λ m. told m ≡ y)
same_found told found x y e h = IfOk-weaker found (λ m. told m ≡ x) (λ m. told m ≡ y) (λ m k. k ∙ sym e) h

-- what a message of the peer at the place means, where its meaning was found by the peer's table
pub meaning_at_place : (s : State) → Stands s →
    (place id opcode : ℕ) (body tokens : List ℕ) (l : Live) (found : Result declared.Meaning NoMemory) →
    slice_get s.audience.live.items place ≡ Some l → tokens ≡ l.waiting →
    ((past : Past) (n : ℕ) → IsTableOf past l.label l.table → relay.StandsFor s.relay past.acts →
    tokens ≡ past.waiting l.label →
    IfOk found (λ m. meant l.label n m
    ≡ of_message past n (record { label = l.label; role = l.role }) opcode body (object_at past l.label id))) →
    IfOk found (λ m.
    meant l.label (length s.journal.entries + 1) m
    ≡ means (entries.Message l.number id opcode body) (length s.journal.entries + 1) (past_of s.journal.entries))
meaning_at_place s v place id opcode body tokens l found here waits by_table =
    let journal : List Entry = s.journal.entries in
    let n : ℕ = length journal + 1 in
    let past : Past = past_of journal in
    let peer : Joined = record { label = l.label; role = l.role } in
    let alive = at_place _ place s.audience.live.items l (each_alive journal s.audience.live.items v.who) here in
    let is : IsLive s.capacity journal l =
    at_place (IsLive s.capacity journal) place s.audience.live.items l v.live here in
    let its : IsTableOf past l.label l.table = table_of journal l.label l.table alive.1 is.table in
    let of_it : Joined → Meaning = λ p. of_message past n p opcode body (object_at past p.label id) in
    let joined : of_peer (peer_at past l.number) of_it ≡ of_it peer = ap (λ o. of_peer o of_it) alive.0 in
    same_found (meant l.label n) found (of_it peer) (of_peer (peer_at past l.number) of_it) joined
    (by_table past n its v.relayed (waits ∙ is.waiting))

-- whether the message of the peer at the place takes a token
pub takes_at_place : (s : State) → Stands s →
    (place id opcode : ℕ) (l : Live) (found : Result declared.Meaning NoMemory) →
    slice_get s.audience.live.items place ≡ Some l →
    ((past : Past) → IsTableOf past l.label l.table →
    IfOk found (λ m. m.takes_token ≡ takes_token (object_at past l.label id) opcode)) →
    IfOk found (λ m. m.takes_token ≡ takes_token (object_at (past_of s.journal.entries) l.label id) opcode)
takes_at_place s v place id opcode l found here by_table =
    let journal : List Entry = s.journal.entries in
    let alive = at_place _ place s.audience.live.items l (each_alive journal s.audience.live.items v.who) here in
    let is : IsLive s.capacity journal l =
    at_place (IsLive s.capacity journal) place s.audience.live.items l v.live here in
    by_table (past_of journal) (table_of journal l.label l.table alive.1 is.table)

-- at most 256 tokens wait for the peer at the place
pub few_at_place : (s : State) → Stands s → (place : ℕ) (l : Live) → slice_get s.audience.live.items place ≡ Some l →
    length l.waiting ≤ 256
few_at_place s v place l here =
    let is : IsLive s.capacity s.journal.entries l =
    at_place (IsLive s.capacity s.journal.entries) place s.audience.live.items l v.live here in
    subst (λ (waiting : List ℕ). length waiting ≤ 256) (sym is.waiting) (few_wait s.journal.entries l.label)

-- The sender of a message as the code finds it, and what its message means.

-- the peer with the number, at the place
pub record IsSender (q place : ℕ) (live : List Live) : Type 0 where
  pub peer : Live
  pub at : IsFoundAt q place live peer

pub sender : (q place : ℕ) (searched live : List Live) → searched ≡ live →
    slice_get searched place ≡ number_of q searched →
    IsSome (number_of q live) → IsSender q place live
sender q place searched live same first there =
    let it = somebody q live (number_of q live) refl there in
    record { peer = it.0; at = found_there q place searched live it.0 same first it.1 }

pub its_meaning : (s : State) → Stands s →
    (q place id opcode : ℕ) (given body : List ℕ) (it : IsSender q place s.audience.live.items) (m : declared.Meaning) →
    IfSome (slice_get s.audience.live.items place) (λ l. meant l.label (length s.journal.entries + 1) m
    ≡ means (entries.Message l.number id opcode given) (length s.journal.entries + 1) (past_of s.journal.entries)) →
    given ≡ body →
    meant it.peer.label (length s.journal.entries + 1) m
    ≡ means (entries.Message q id opcode body) (length s.journal.entries + 1) (past_of s.journal.entries)
its_meaning s v q place id opcode given body it m h same =
    let l : Live = it.peer in
    let n : ℕ = length s.journal.entries + 1 in
    let number : l.number ≡ q = (at_number s.journal.entries s.audience.live.items v.who q l it.at.numbered).2 in
    of_found (λ (l : Live). meant l.label n m
    ≡ means (entries.Message l.number id opcode given) n (past_of s.journal.entries))
    (slice_get s.audience.live.items place) l it.at.here h
    ∙ ap (λ (b : List ℕ). means (entries.Message l.number id opcode b) n (past_of s.journal.entries)) same
    ∙ ap (λ (k : ℕ). means (entries.Message k id opcode body) n (past_of s.journal.entries)) number
