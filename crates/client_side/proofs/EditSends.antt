-- What an edit of the field's own user makes its client send.
use Rattle.std.proofs.Common.{◌≡◌, ℕ, ◌+◌, ◌%◌, ◌^◌, Bool, true, false, ◌&&◌, List, ◌++◌, refl}
use Rattle.std.proofs.lemmas.List.{append-nil}
use Rattle.trial_field.specs.Log.{Batch, Entry}
use Rattle.trial_field.specs.FieldText.{FieldText, after}
use Rattle.client_side.specs.Messages.{spelled}
use Rattle.client_side.specs.Happenings.{edited}
use Rattle.client_side.specs.FieldSends.{change_sent}
use Rattle.client_side.specs.FieldLog.{Field, changes}
use Rattle.client_side.specs.FieldState.{State, happens}

abbrev state : FieldText → Bool → ℕ → Batch → List ℕ → State
state text entered commits pending bytes =
    let field : Field = record { text = text; is_entered = entered; commits = commits } in
    record { field = field; pending = pending; to_send = bytes }

pub edit_is_sent : (e : Entry) (old new : FieldText) (entered : Bool) (commits after_commits : ℕ) (pending : Batch)
    (before bytes : List ℕ)
    → entered ≡ true → changes e old ≡ true → new ≡ after e old → after_commits ≡ (commits + 1) % 2 ^ 32
    → bytes ≡ before ++ spelled (change_sent 1 new)
    → state new entered after_commits pending bytes ≡ happens (edited e) (state old entered commits pending before)
edit_is_sent e old new entered commits after_commits pending before bytes is-entered changed text count sent =
    rw (sent, count, is-entered, changed, text) refl

pub edit_is_not_sent : (e : Entry) (old new : FieldText) (entered : Bool) (commits : ℕ) (pending : Batch)
    (bytes : List ℕ)
    → (entered && changes e old) ≡ false → new ≡ after e old
    → state new entered commits pending bytes ≡ happens (edited e) (state old entered commits pending bytes)
edit_is_not_sent e old new entered commits pending bytes stays text = rw (stays, text) (rw (append-nil bytes) refl)

-- nothing is sent where the field isn't entered, or nothing changed
pub none_entered : (entered changed : Bool) → entered ≡ false → (entered && changed) ≡ false
none_entered entered changed out = rw out refl

pub none_changed : (entered changed : Bool) → changed ≡ false → (entered && changed) ≡ false
none_changed true changed same = same
none_changed false changed same = refl
