-- What a table shows: the live objects by their ids and by their labels, and the calls that they
-- stand for.
use Rattle.std.specs.Prelude.{refl, ◌≡◌, ◌≤◌, ◌<◌, ℕ, List, length, slice_index_or, Bool, false, ◌||◌, ◌==◌, nat_lt, Option, Some, None, is_some, IsSomeAnd, if◌then◌else◌}
use Rattle.std.specs.Ordering.{nat_cmp}
use Rattle.std.specs.FinMap as map
use Rattle.std.specs.Coded.{Coded, code_by, coded×, coded_ℕ}
use Rattle.wl_proto.specs.declared.interface.Interface.{Interface}
use Rattle.wl_proto.specs.contracts.interface.Interface as interface
use Rattle.im_objects.specs.declared.refusal.MakeRefusal.{MakeRefusal}
use Rattle.im_objects.specs.declared.refusal.MakeRefusal.TheVariants.{IdRange, IdTaken, TooMany}
use Rattle.im_objects.specs.Calls.{Call, has_label, object_under, id_of, number_live}

pub record Objects : Type 0 where
  -- the interface and the label of what is under each live id
  pub under : map.FinMap nat_cmp (Interface × ℕ)
  -- the id of each live label
  pub ids : map.FinMap nat_cmp ℕ

-- objects are stored as the pair of their maps
abbrev pub objects_code : Coded Objects
objects_code =
    code_by (map.FinMap nat_cmp (Interface × ℕ) × map.FinMap nat_cmp ℕ)
    (coded× (map.code coded_ℕ (coded× interface.the_row.coded coded_ℕ)) (map.code coded_ℕ coded_ℕ))
    (λ o. (o.under, o.ids))
    (λ p. record { under = p.0; ids = p.1 })
    (λ _. refl)

-- the maps of lists of entries
abbrev pub under_of : List (ℕ × (Interface × ℕ)) → map.FinMap nat_cmp (Interface × ℕ)
under_of entries = map.from_entries entries

abbrev pub ids_of : List (ℕ × ℕ) → map.FinMap nat_cmp ℕ
ids_of entries = map.from_entries entries

-- there is an object, and it has this label
abbrev pub IsLabelled : (label : ℕ) → Option (Interface × ℕ) → Type 0
IsLabelled label object = IsSomeAnd object (λ o. o.1 ≡ label)

-- it is this id
abbrev pub is_id : (id : ℕ) → Option ℕ → Bool
is_id id None = false
is_id id (Some other) = id == other

-- at most 256 objects besides the display; a label has an id exactly where what is under the id has
-- the label
pub record IsWhole (under : map.FinMap nat_cmp (Interface × ℕ))
    (ids : map.FinMap nat_cmp ℕ) : Type 0 where
  pub few : map.len under ≤ 257
  pub inverse : (label id : ℕ) → is_id id (map.get ids label) ≡ has_label label (map.get under id)

-- what is under each of the first ids
abbrev pub AreNear : List (Option (Interface × ℕ)) → map.FinMap nat_cmp (Interface × ℕ) → Type 0
AreNear near under = (id : ℕ) → id < length near → slice_index_or near id None ≡ map.get under id

-- the id isn't from 1 to 0xFEFFFFFF
abbrev pub is_no_client_id : (id : ℕ) → Bool
is_no_client_id id = id == 0 || nat_lt 4278190079 id

-- Why nothing can be made under the id, if so: no client may choose it, an object is under it, or
-- 256 objects are live besides the display. The first that applies is told.
abbrev pub refusal_of : Objects → (id : ℕ) → Option MakeRefusal
refusal_of objects id =
    (if is_no_client_id id then Some IdRange
    else (if is_some (map.get objects.under id) then Some IdTaken
    else (if nat_lt 256 (map.len objects.under) then Some TooMany else None)))

-- the objects are as after these calls, the newest first
pub record Stands (calls : List Call) (objects : Objects) : Type 0 where
  pub under : (id : ℕ) → map.get objects.under id ≡ object_under calls id
  pub ids : (label : ℕ) → map.get objects.ids label ≡ id_of calls label
  pub number : map.len objects.under ≡ number_live calls
