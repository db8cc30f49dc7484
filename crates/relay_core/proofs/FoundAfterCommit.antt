-- Looking up a field after its commit.
use Rattle.std.proofs.Common.{◌≡◌, ℕ, List, [], ◌∷◌, map, Bool, true, false, Option, Some, None, ap, refl, sym, ◌∙◌}
use Rattle.std.specs.Prelude.{◌==◌, if◌then◌else◌}
use Rattle.relay_model.specs.Objects.{is_at}
use Rattle.field_state.specs.Stands.{Kept as KeptField}
use Rattle.field_state.specs.Changes as change
use Rattle.field_state.specs.Calls as field
use Rattle.field_state.specs.Hold.{holds_after}
use Rattle.field_state.specs.declared.commit.Taken.{Taken}
use Rattle.relay_objects.specs.declared.object.Object.{Object}
use Rattle.relay_objects.specs.declared.object.Kind.{Kind}
use Rattle.relay_objects.specs.declared.object.Kind.TheVariants.{Peer, Surface, Field, Method, Popup, Grab, Thing, Board}
use Rattle.relay_objects.specs.Objects.{find, changed, committed, field_of_kind, field_in}
use Rattle.relay_core.specs.Machine.{current_of, taken_in, text_around}
use Rattle.relay_core.specs.Kept.{text_pending}

abbrev pub under : (KeptField → KeptField) → Option KeptField → Option KeptField
under change None = None
under change (Some kept) = Some (change kept)

kind_changed : (change : KeptField → KeptField) (k : Kind) →
    field_of_kind (changed change k) ≡ under change (field_of_kind k)
kind_changed change Peer = refl
kind_changed change (Surface area) = refl
kind_changed change (Field kept) = refl
kind_changed change Method = refl
kind_changed change (Popup m t) = refl
kind_changed change (Grab m) = refl
kind_changed change Thing = refl
kind_changed change Board = refl

found_by : (f : ℕ) (d : Option ℕ) (o : Object) (os : List Object) (b c : Bool) → (o.label == f) ≡ b →
    is_at d o.label ≡ c →
    field_in (find (map (committed f d) os) f) ≡ under change.committed (field_in (find os f)) →
    field_in (find (map (committed f d) (o ∷ os)) f) ≡ under change.committed (field_in (find (o ∷ os) f))
found_by f d o os true c e k h = rw (e, e) (kind_changed change.committed o.kind)
found_by f d o os false true e k h = rw (e, k, e) h
found_by f d o os false false e k h = rw (e, k, e) h

-- the field that committed
pub found_committed : (f : ℕ) (d : Option ℕ) (os : List Object) →
    field_in (find (map (committed f d) os) f) ≡ under change.committed (field_in (find os f))
found_committed f d [] = refl
found_committed f d (o ∷ os) = found_by f d o os (o.label == f) (is_at d o.label) refl refl (found_committed f d os)

-- a commit after which the field holds
abbrev pub IsHolding : Taken → Type 0
IsHolding t = holds_after t ≡ true

text_by : (o : Option KeptField) → IsHolding (taken_in o) →
    text_pending o ≡ text_around (current_of (under change.committed o)).surrounding
text_by None h = cc
text_by (Some kept) h =
    ap (λ (c : field.State). text_around c.surrounding) (sym (ap (λ b. if b then kept.pending else field.initial) h))

-- what was pending is current of it
pub text_committed : (f : ℕ) (d : Option ℕ) (os : List Object) → IsHolding (taken_in (field_in (find os f))) →
    text_pending (field_in (find os f))
    ≡ text_around (current_of (field_in (find (map (committed f d) os) f))).surrounding
text_committed f d os h =
    text_by (field_in (find os f)) h ∙ ap (λ o. text_around (current_of o).surrounding) (sym (found_committed f d os))
