-- What all that an act tells makes of those to whom it is told.
use Rattle.std.proofs.Common.{◌≡◌, List, [], ◌∷◌, map, refl, ap, ◌∙◌}
use Rattle.std.specs.List.{AllByRecursion}
use Rattle.relay_model.specs.declared.said.Told.{Told}
use Rattle.relay_objects.specs.Reached.{Reached}
use Rattle.broker_model.specs.Ids.{Made}
use Rattle.broker_audience.specs.declared.audience.Audience.{Audience}
use Rattle.broker_audience.specs.declared.live.Live.{Live}
use Rattle.broker_audience.specs.Directed.{Directed}
use Rattle.broker_audience.specs.Lives.{cleared, delivered, listens, has_heard, told_all}
use Rattle.broker_audience.specs.Tells.{IsShort, Tells}

-- each live peer heard all that is its own
pub record AllTold (before : Audience) (told : List Told) (after : Audience) : Type 0 where
  pub live : after.live.items ≡ map (has_heard before.directory.made told) before.live.items
  pub directory : after.directory ≡ before.directory

-- nothing told changes nobody
heard_nothing : (made : List Made) (live : List Live) → live ≡ map (has_heard made []) live
heard_nothing made [] = refl
heard_nothing made (l ∷ rest) = ap (λ ls. l ∷ ls) (heard_nothing made rest)

-- one thing told, and then the rest
heard_more : (made : List Made) (t : Told) (told : List Told) (live : List Live) →
    map (has_heard made told) (map (listens made t) live) ≡ map (has_heard made (t ∷ told)) live
heard_more made t told [] = refl
heard_more made t told (l ∷ rest) = ap (λ ls. has_heard made (t ∷ told) l ∷ ls) (heard_more made t told rest)

-- what tells one by one lead to, if each message is short
pub all_told : (told : List Told) (before after : Audience) →
    Reached (λ a t b. IsShort t → Tells a t b) before told after → AllByRecursion IsShort told →
    AllTold before told after
all_told [] before after h short = record {
  live = ap (λ (a : Audience). a.live.items) h ∙ heard_nothing before.directory.made before.live.items;
  directory = ap (λ (a : Audience). a.directory) h;
}
all_told (t ∷ rest) before after h short =
    let tells : Tells before t h.0 = h.1 short.0 in
    let more : AllTold h.0 rest after = all_told rest h.0 after h.2 short.1 in
    record {
      live =
          more.live ∙ ap (λ (d : Directed). map (has_heard d.made rest) h.0.live.items) tells.directory
          ∙ ap (map (has_heard before.directory.made rest)) tells.live
          ∙ heard_more before.directory.made t rest before.live.items;
      directory = more.directory ∙ tells.directory;
    }

-- begun anew, told all, and delivered
pub delivered_all : (made : List Made) (told : List Told) (live : List Live) →
    map delivered (map (has_heard made told) (map cleared live)) ≡ map (told_all made told) live
delivered_all made told [] = refl
delivered_all made told (l ∷ rest) = ap (λ ls. told_all made told l ∷ ls) (delivered_all made told rest)
