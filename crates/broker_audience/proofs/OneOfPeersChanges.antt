-- What a message makes of one of all live peers.
use Rattle.std.proofs.Common.{◌≡◌, ℕ, ◌<◌, Bool, List, length, get_or, set, slice_get, Option, Some, IfSome, refl, sym, subst}
use Rattle.std.proofs.lemmas.Option.{slice_get_read}
use Rattle.relay_model.specs.declared.act.Act.{Act}
use Rattle.broker_model.specs.Requests.{Argument}
use Rattle.broker_audience.specs.declared.live.Live.{Live}
use Rattle.broker_audience.specs.Changes.{IsChanged, IsChangedAt}

there : (place : ℕ) (live : List Live) (l : Live) → place < length live → l ≡ get_or live place l →
    slice_get live place ≡ Some l
there place live l within read = slice_get_read live (length live) place l refl within read

-- the one at the place is changed
pub changed_at : (place id n : ℕ) (takes : Bool) (act : Act) (new : Option Argument) (live : List Live)
    (before after : Live) → place < length live →
    before ≡ get_or live place before → IsChanged id n takes act new before after →
    IsChangedAt place id n takes act new live (set live place after)
changed_at place id n takes act new live before after within read changed = record {
  after = after;
  others = refl;
  changed = subst (λ (o : Option Live). IfSome o (λ l. IsChanged id n takes act new l after))
      (sym (there place live before within read)) changed;
}
