-- Batches, counts, and what is relayed.
use Rattle.std.specs.Prelude.{ℕ, ℤ, pos, ◌+◌, ◌%◌, ◌^◌, List, [], ◌∷◌, ◌++◌, length, Bool, ◌&&◌, ◌==◌, nat_le, if◌then◌else◌, unwrap_or}
use Rattle.relay_model.specs.declared.act.Act.{Act}
use Rattle.relay_model.specs.declared.act.Act.TheVariants.{Commit, MString, MPreedit, MDelete, MCommit}
use Rattle.relay_model.specs.declared.said.Said.{Said}
use Rattle.relay_model.specs.declared.said.Said.TheVariants as said
use Rattle.relay_model.specs.Objects.{next, is_at}
use Rattle.relay_model.specs.Hold.{holder}
use Rattle.relay_model.specs.Activation.{begun, fresh}
pub use Rattle.wl_proto.specs.Zero.{is_zero}

-- what a method deletes round the cursor
pub record Deletion : Type 0 where
  pub before : ℕ
  pub after : ℕ

-- a preedit with its cursors
pub record Preedit : Type 0 where
  pub text : List ℕ
  pub begin : ℤ
  pub end : ℤ

-- the edits of one commit
pub record Batch : Type 0 where
  pub deletion : Deletion
  pub string : List ℕ
  pub preedit : Preedit

-- nothing is deleted
abbrev pub no_deletion : Deletion
no_deletion = record { before = 0; after = 0 }

-- no preedit is shown
abbrev pub no_preedit : Preedit
no_preedit = record { text = []; begin = pos 0; end = pos 0 }

-- a batch without edits
abbrev pub no_batch : Batch
no_batch = record { deletion = no_deletion; string = []; preedit = no_preedit }

-- what an act makes of the last deletion of m, where rest is what the acts before it say
abbrev pub deletion_by : Act → ℕ → Deletion → Deletion
deletion_by (MDelete n before after) m rest =
    (if n == m then record { before = before; after = after } else rest)
deletion_by (MCommit n serial) m rest = (if n == m then no_deletion else rest)
deletion_by _ m rest = rest

-- the last deletion of m past the act `from` and past m's last commit
-- (zwp_input_method_v2.delete_surrounding_text)
abbrev pub last_deletion : ℕ → List Act → ℕ → Deletion
last_deletion from [] m = no_deletion
last_deletion from (act ∷ older) m =
    (if nat_le (next older) from then no_deletion
    else deletion_by act m (last_deletion from older m))

-- what an act makes of the last string of m, where rest is what the acts before it say
abbrev pub string_by : Act → ℕ → List ℕ → List ℕ
string_by (MString n text) m rest = (if n == m then text else rest)
string_by (MCommit n serial) m rest = (if n == m then [] else rest)
string_by _ m rest = rest

-- the last string of m past the act `from` and past m's last commit
-- (zwp_input_method_v2.commit_string)
abbrev pub last_string : ℕ → List Act → ℕ → List ℕ
last_string from [] m = []
last_string from (act ∷ older) m =
    (if nat_le (next older) from then [] else string_by act m (last_string from older m))

-- what an act makes of the last preedit of m, where rest is what the acts before it say
abbrev pub preedit_by : Act → ℕ → Preedit → Preedit
preedit_by (MPreedit n text begin end) m rest =
    (if n == m then record { text = text; begin = begin; end = end } else rest)
preedit_by (MCommit n serial) m rest = (if n == m then no_preedit else rest)
preedit_by _ m rest = rest

-- the last preedit of m past the act `from` and past m's last commit
-- (zwp_input_method_v2.set_preedit_string)
abbrev pub last_preedit : ℕ → List Act → ℕ → Preedit
last_preedit from [] m = no_preedit
last_preedit from (act ∷ older) m =
    (if nat_le (next older) from then no_preedit else preedit_by act m (last_preedit from older m))

-- the edits of m since its last commit and since the act `from`
abbrev pub edits_past : ℕ → List Act → ℕ → Batch
edits_past from log m =
    record {
      deletion = last_deletion from log m;
      string = last_string from log m;
      preedit = last_preedit from log m;
    }

-- what an act makes of the pending edits of m
abbrev pub edits_by : Act → ℕ → Batch → Batch
edits_by act m rest =
    record {
      deletion = deletion_by act m rest.deletion;
      string = string_by act m rest.string;
      preedit = preedit_by act m rest.preedit;
    }

-- what a commit of m makes one batch: its last edits since its previous commit and since its
-- activation began
abbrev pub batch : List Act → ℕ → Batch
batch log m = edits_past (unwrap_or (begun log) 0) log m

-- how often f committed
abbrev pub commits : List Act → ℕ → ℕ
commits [] f = 0
commits (Commit g ∷ older) f = (if g == f then commits older f + 1 else commits older f)
commits (_ ∷ older) f = commits older f

-- the count of f's commits, entered or not, as a number of 32 bits (zwp_text_input_v3.done)
abbrev pub commit_count : List Act → ℕ → ℕ
commit_count log f = commits log f % 2 ^ 32

-- the event of a deletion, unless it deletes nothing
abbrev pub deletion_said : Deletion → List Said
deletion_said d = (if d.before == 0 && d.after == 0 then [] else said.Delete d.before d.after ∷ [])

-- the event of a string, unless it is empty
abbrev pub string_said : List ℕ → List Said
string_said text = (if length text == 0 then [] else said.CommitString text ∷ [])

-- the preedit has no text, and both its cursors are 0
abbrev pub is_no_preedit : Preedit → Bool
is_no_preedit p = (length p.text == 0) && is_zero p.begin && is_zero p.end

-- the event of a preedit, unless it is none
abbrev pub preedit_said : Preedit → List Said
preedit_said p = (if is_no_preedit p then [] else said.Preedit p.text p.begin p.end ∷ [])

-- the events of a batch: deletion, string and preedit, each unless it is empty, and then the done
-- with the count
abbrev pub group : Batch → ℕ → List Said
group b count =
    deletion_said b.deletion
    ++ (string_said b.string ++ (preedit_said b.preedit ++ said.FieldDone count ∷ []))

-- the group of the batch that the act commits, told to the field f; no other act has one
abbrev pub group_of : Act → List Act → ℕ → List Said
group_of (MCommit m serial) older f = group (batch older m) (commit_count older f)
group_of _ older f = []

-- what the acts of a history relay to the field f: the group of each fresh batch that was committed
-- while f held the seat, in order
abbrev pub relayed : List Act → ℕ → List (List Said)
relayed [] f = []
relayed (act ∷ older) f =
    (if fresh act older && is_at (holder older) f then relayed older f ++ group_of act older f ∷ []
    else relayed older f)
