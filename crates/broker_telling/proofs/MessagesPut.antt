-- What is put for a peer are the messages of entries, one behind the other.
use Rattle.std.proofs.Common.{◌≡◌, ℕ, Bool, true, false, List, [], ◌∷◌, ◌++◌, refl, sym, ap, ◌∙◌}
use Rattle.std.specs.Prelude.{if◌then◌else◌}
use Rattle.std.specs.List.{AllByRecursion}
use Rattle.wl_wire.specs.Messages.{joined}
use Rattle.relay_model.specs.Told.{told}
use Rattle.broker_model.specs.declared.journal.Entry.{Entry}
use Rattle.broker_model.specs.Groups.{followed_by}
use Rattle.broker_model.specs.Resolve.{past_of, resolve}
use Rattle.broker_model.specs.Out.{Outgoing, act_at, group_at, fits, before_group, out_for}
use Rattle.broker_model.proofs.EachElement.{each_append}
use Rattle.broker_telling.proofs.MessagesTold.{told_messages, joined_both, told_joined}

-- the messages of an entry
abbrev pub entry_messages : Entry → List Entry → ℕ → List (List ℕ)
entry_messages e older p = told_messages (past_of (e ∷ older)).made p (told (act_at e older) (resolve older))

pub entry_bytes : (e : Entry) (older : List Entry) (p : ℕ) →
    (group_at e older p).bytes ≡ joined (entry_messages e older p)
entry_bytes e older p = told_joined (past_of (e ∷ older)).made p (told (act_at e older) (resolve older))

-- the bytes are messages of which this holds
pub record ArePut (P : List ℕ → Type 0) (bytes : List ℕ) : Type 0 where
  pub messages : List (List ℕ)
  pub is : bytes ≡ joined messages
  pub each : AllByRecursion P messages

more_put : (P : List ℕ → Type 0) (front back : List ℕ) (ms : List (List ℕ)) → back ≡ joined ms → AllByRecursion P ms →
    ArePut P front →
    ArePut P (front ++ back)
more_put P front back ms is each h = record {
  messages = h.messages ++ ms;
  is = ap (λ (l : List ℕ). l ++ back) h.is ∙ ap (λ (l : List ℕ). joined h.messages ++ l) is
      ∙ sym (joined_both h.messages ms);
  each = each_append P h.messages ms h.each each;
}

-- what holds of the messages of each entry of such journals holds of all that is put
module _ (P : List ℕ → Type 0) (Q : List Entry → Type 0) (p : ℕ)
    (before : (e : Entry) (older : List Entry) → Q (e ∷ older) → Q older)
    (each : (e : Entry) (older : List Entry) → Q (e ∷ older) → AllByRecursion P (entry_messages e older p)) where
  pub put_messages : (capacity : ℕ) (journal : List Entry) → Q journal → ArePut P (out_for capacity journal p).put.bytes
  put_messages capacity [] q = record { messages = []; is = refl; each = tt }
  put_messages capacity (e ∷ older) q =
      by (fits capacity (group_at e older p) (before_group e older p (out_for capacity older p)))
      (put_messages capacity older (before e older q))
    where
      out : Outgoing
      out = before_group e older p (out_for capacity older p)

      by : (b : Bool) → ArePut P (out_for capacity older p).put.bytes →
          ArePut P (if b then record out { put = followed_by out.put (group_at e older p) }
          else record out { choked = true }).put.bytes
      by false k = k
      by true k =
          more_put P (out_for capacity older p).put.bytes (group_at e older p).bytes (entry_messages e older p)
          (entry_bytes e older p)
          (each e older q) k
