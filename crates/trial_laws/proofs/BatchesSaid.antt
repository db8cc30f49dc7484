-- The groups that are relayed to a field are read as the batches that are relayed, where the acts of batches can be
-- said.
use Rattle.std.proofs.Common.{◌≡◌, ℕ, ◌≤◌, Bool, true, false, List, [], ◌∷◌, ◌++◌, length, refl, ap, ◌∙◌, arith}
use Rattle.std.specs.Prelude.{◌==◌, ◌&&◌, if◌then◌else◌, nat_le, unwrap_or}
use Rattle.std.specs.List.{AllByRecursion}
use Rattle.relay_model.specs.declared.act.Act.{Act}
use Rattle.relay_model.specs.declared.act.Act.TheVariants as acts
use Rattle.relay_model.specs.Objects.{next, is_at}
use Rattle.relay_model.specs.Hold.{holder}
use Rattle.relay_model.specs.Activation.{begun, fresh}
use Rattle.relay_model.specs.Batch.{Preedit, no_preedit, string_by, last_string, preedit_by, last_preedit, batch, commit_count, group_of, relayed}
use Rattle.broker_model.proofs.EachElement.{either_way}
use Rattle.relay_objects.specs.Fits.{FitsMessage}
use Rattle.client_side.specs.Happenings.{Happening}
use Rattle.broker_telling.proofs.ActsCanBeSaid.{Says}
use Rattle.broker_telling.proofs.ToldSayable.{BatchSays, says_batch}
use Rattle.trial_laws.specs.RelayedBatches.{group_told, groups_told, IsSayable}
use Rattle.trial_laws.specs.RelayedAsBatches.{batch_by, relayed_batches}
use Rattle.trial_laws.proofs.GroupsRead.{groups_read}
use Rattle.trial_laws.proofs.BatchesRelayed.{groups-append}

-- ---- the texts of a batch are short

abbrev IsShortString : List ℕ → Type 0
IsShortString text = length text ≤ 4083

string_after : (act : Act) (m : ℕ) (rest : List ℕ) → FitsMessage act → IsShortString rest →
    IsShortString (string_by act m rest)
string_after (acts.MString n text) m rest h k = either_way IsShortString (n == m) text rest h k
string_after (acts.MCommit n serial) m rest h k = either_way IsShortString (n == m) [] rest (omega arith) k
string_after _ m rest h k = k

short_string : (from : ℕ) (log : List Act) (m : ℕ) → AllByRecursion FitsMessage log →
    IsShortString (last_string from log m)
short_string from [] m h = omega arith
short_string from (act ∷ older) m h =
    either_way IsShortString (nat_le (next older) from) [] (string_by act m (last_string from older m)) (omega arith)
    (string_after act m (last_string from older m) h.0 (short_string from older m h.1))

abbrev HasShortText : Preedit → Type 0
HasShortText p = length p.text ≤ 4075

preedit_after : (act : Act) (m : ℕ) (rest : Preedit) → FitsMessage act → HasShortText rest →
    HasShortText (preedit_by act m rest)
preedit_after (acts.MPreedit n text begin end) m rest h k =
    either_way HasShortText (n == m) (record { text = text; begin = begin; end = end }) rest h k
preedit_after (acts.MCommit n serial) m rest h k = either_way HasShortText (n == m) no_preedit rest (omega arith) k
preedit_after _ m rest h k = k

short_preedit : (from : ℕ) (log : List Act) (m : ℕ) → AllByRecursion FitsMessage log →
    HasShortText (last_preedit from log m)
short_preedit from [] m h = omega arith
short_preedit from (act ∷ older) m h =
    either_way HasShortText (nat_le (next older) from) no_preedit (preedit_by act m (last_preedit from older m))
    (omega arith)
    (preedit_after act m (last_preedit from older m) h.0 (short_preedit from older m h.1))

-- ---- each batch can be said

sayable : (log : List Act) (m f : ℕ) → AllByRecursion (Says false) log → AllByRecursion FitsMessage log →
    IsSayable (batch log m) (commit_count log f)
sayable log m f h k =
    let b : BatchSays (batch log m) (commit_count log f) = says_batch false log m f h in
    record {
      before = b.deletion.0;
      after = b.deletion.1;
      string = b.string;
      string_fits = short_string (unwrap_or (begun log) 0) log m k;
      preedit = b.preedit.0;
      preedit_fits = short_preedit (unwrap_or (begun log) 0) log m k;
      begin = b.preedit.1;
      end = b.preedit.2;
      serial = b.count-is;
    }

group_batch : (act : Act) (older : List Act) (f : ℕ) → fresh act older ≡ true → AllByRecursion (Says false) older →
    AllByRecursion FitsMessage older → group_told (group_of act older f) ≡ batch_by act older f
group_batch (acts.MCommit m serial) older f e h k = groups_read (batch older m) (commit_count older f)
    (sayable older m f h k)
group_batch _ older f e h k = cc

left_of : (a b : Bool) → (a && b) ≡ true → a ≡ true
left_of true b e = refl
left_of false b e = cc

-- what is relayed are batches
pub relayed_are : (log : List Act) (f : ℕ) → AllByRecursion (Says false) log → AllByRecursion FitsMessage log →
    groups_told (relayed log f) ≡ relayed_batches log f
relayed_are [] f h k = refl
relayed_are (act ∷ older) f h k = by (fresh act older && is_at (holder older) f) refl (relayed_are older f h.1 k.1)
  where
    by : (b : Bool) → (fresh act older && is_at (holder older) f) ≡ b →
        groups_told (relayed older f) ≡ relayed_batches older f →
        groups_told (if b then relayed older f ++ group_of act older f ∷ [] else relayed older f)
        ≡ (if b then relayed_batches older f ++ batch_by act older f else relayed_batches older f)
    by true e rest =
        groups-append (relayed older f) (group_of act older f)
        ∙ ap (λ (l : List Happening). l ++ group_told (group_of act older f)) rest
        ∙ ap (λ (l : List Happening). relayed_batches older f ++ l)
        (group_batch act older f (left_of (fresh act older) (is_at (holder older) f) e) h.1 k.1)
    by false e rest = rest
