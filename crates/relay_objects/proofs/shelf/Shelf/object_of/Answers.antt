use Rattle.std.proofs.Common.{◌≡◌, Option, Some, None, Bor, option_map, ap, sym, ◌∙◌, refl}
use Rattle.std.specs.Option.{option_copied}
use Rattle.relay_objects.specs.declared.object.Object.{Object}
use Rattle.relay_objects.specs.Objects.{find}
use Rattle.relay_objects.proofs.NamedObjects.{at_key, find_named}
use Rattle.relay_objects.proofs.shelf.Shelf.object_of.Goals as goal

now-copied : (r : Option (Bor Object)) → option_map (λ o. o.now) r ≡ option_copied r
now-copied None = refl
now-copied (Some o) = refl

pub returns-in-Some : goal.returns-in-Some
returns-in-Some c =
    let key = sym c.in-Some.is ∙ c.key_of.ensures in
    now-copied c.get.result ∙ c.get.ensures ∙ ap (at_key c.self.inside.slab) (rw c.deref.ensures.value at key)
    ∙ sym (find_named c.self.inside.slab c.self.inside.places.items c.args.label c.self.invariant.held)
    ∙ ap (λ v. find v.items c.args.label) c.self.view_is

pub returns-in-None : goal.returns-in-None
returns-in-None c =
    let key = sym c.in-None.is ∙ c.key_of.ensures in
    ap (at_key c.self.inside.slab) (rw c.deref.ensures.value at key)
    ∙ sym (find_named c.self.inside.slab c.self.inside.places.items c.args.label c.self.invariant.held)
    ∙ ap (λ v. find v.items c.args.label) c.self.view_is
