-- The table: keys with texts of their own, and entries of several keys.
use Rattle.std.specs.Prelude.{◌≡◌, ℕ, ◌<◌, ◌≤◌, Bool, true, false, ◌&&◌, ◌||◌, ◌==◌, List, [], length, nat_eq, nat_lt, find, insert, is_some, Option, Some, None, All, AllPairs, IsTrue, flat_map}
use Rattle.std.specs.List.{starts_with, list_any, prefix_len}
use Rattle.wl_wire.specs.Texts.{has_no_zero}
use Rattle.compose_method.specs.Order.{up_to}
use Rattle.compose_method.specs.declared.entries.Entry.{Entry}
use Rattle.compose_method.specs.declared.singles.Single.{Single}
use Rattle.compose_method.specs.declared.table.TheConstants.{MAX_SINGLES, MAX_ENTRIES, MAX_KEYS, MAX_KEY_TEXT}

pub record Table : Type 0 where
  pub singles : List Single
  pub entries : List Entry

-- the key's single
abbrev pub single_of : List Single → ℕ → Option Single
single_of singles key = find (λ s. s.key == key) singles

-- the entry with which the keys begin
abbrev pub begun_by : List Entry → List ℕ → Option Entry
begun_by entries keys = find (λ e. starts_with nat_eq keys e.keys) entries

-- whether the keys are a proper prefix of an entry's
abbrev pub going_on : List Entry → List ℕ → Bool
going_on entries keys =
    list_any (λ e. starts_with nat_eq e.keys keys && nat_lt (length keys) (length e.keys)) entries

-- whether the keys are an entry's, begin with an entry's, or are a prefix of an entry's
abbrev pub clashes : Table → List ℕ → Bool
clashes t keys = is_some (begun_by t.entries keys) || going_on t.entries keys

abbrev pub has_single : Table → ℕ → Bool
has_single t key = is_some (single_of t.singles key)

abbrev pub single : ℕ → List ℕ → Single
single key text = record { key = key; text = text }

abbrev pub entry : List ℕ → List ℕ → Entry
entry text keys = record { keys = keys; text = text }

-- the singles stand in the order of their keys, and so do the entries
abbrev pub with_single : Single → Table → Table
with_single s t =
    record t { singles = insert t.singles (prefix_len (λ x. nat_lt x.key s.key) t.singles) s }

abbrev pub with_entry : Entry → Table → Table
with_entry e t =
    record t { entries = insert t.entries (prefix_len (λ x. up_to x.keys e.keys) t.entries) e }

abbrev pub empty_table : Table
empty_table = record { singles = []; entries = [] }

-- the key's own text, none where it has none
abbrev pub text_of_single : Option Single → List ℕ
text_of_single None = []
text_of_single (Some s) = s.text

abbrev pub own_text : Table → ℕ → List ℕ
own_text t key = text_of_single (single_of t.singles key)

abbrev pub own_texts : Table → List ℕ → List ℕ
own_texts t keys = flat_map (own_text t) keys

-- 1 to 64 bytes, none of them zero
pub record IsKeyText (text : List ℕ) : Type 0 where
  pub some : 1 ≤ length text
  pub few : length text ≤ MAX_KEY_TEXT
  pub clean : IsTrue (has_no_zero text)

-- 2 to 8 keys
pub record AreKeys (keys : List ℕ) : Type 0 where
  pub several : 2 ≤ length keys
  pub few : length keys ≤ MAX_KEYS

abbrev pub AreRising : List Single → Type 0
AreRising = AllPairs (λ a b. a.key < b.key)

abbrev pub AreInOrder : List Entry → Type 0
AreInOrder = AllPairs (λ a b. up_to a.keys b.keys ≡ true)

-- neither begins the other
abbrev pub StandApart : Entry → Entry → Type 0
StandApart a b =
    (starts_with nat_eq a.keys b.keys ≡ false) × (starts_with nat_eq b.keys a.keys ≡ false)

abbrev pub AreApart : List Entry → Type 0
AreApart = AllPairs StandApart

-- what is true of every table
pub record IsTable (t : Table) : Type 0 where
  pub rising : AreRising t.singles
  pub in_order : AreInOrder t.entries
  pub apart : AreApart t.entries
  pub few_singles : length t.singles ≤ MAX_SINGLES
  pub few_entries : length t.entries ≤ MAX_ENTRIES
  pub single_texts : All (λ s. IsKeyText s.text) t.singles
  pub entry_texts : All (λ e. IsKeyText e.text) t.entries
  pub entry_keys : All (λ e. AreKeys e.keys) t.entries
