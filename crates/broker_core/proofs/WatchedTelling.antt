-- What is told one by one to an audience beside which somebody watches: the audience hears it all, and who watches is
-- told what the shell is told.
use Rattle.std.proofs.Common.{◌≡◌, ℕ, List, [], ◌∷◌, map, refl, ap, subst, ◌∙◌}
use Rattle.std.specs.List.{AllByRecursion}
use Rattle.relay_model.specs.declared.said.Told.{Told}
use Rattle.relay_objects.specs.Reached.{Reached}
use Rattle.relay_objects.proofs.TellsAppend.{reached_append}
use Rattle.broker_model.specs.Ids.{Made}
use Rattle.broker_audience.specs.declared.audience.Audience.{Audience}
use Rattle.broker_audience.specs.declared.live.Live.{Live}
use Rattle.broker_audience.specs.Directed.{Directed}
use Rattle.broker_audience.specs.Lives.{Numbered, who, listens}
use Rattle.broker_audience.specs.Tells.{IsShort, Tells}
use Rattle.broker_core.specs.declared.watch.Telling.{Telling}
use Rattle.broker_core.specs.Watched.{Watched, shown, shown_by}
use Rattle.broker_core.specs.Telling.{IsTelling}

-- the audience and the watcher are the same two
pub record AreSame {W : Type 0} (before after : Telling W) : Type 0 where
  pub audience : after.audience.ghost_name ≡ before.audience.ghost_name
  pub watch : after.watch.ghost_name ≡ before.watch.ghost_name

pub same_two : {W : Type 0} (R : W → Watched → W → Type 0) (ts : List Told) (before after : Telling W) →
    Reached (IsTelling R) before ts after → AreSame before after
same_two R [] before after h = record {
  audience = ap (λ t. t.audience.ghost_name) h;
  watch = ap (λ t. t.watch.ghost_name) h;
}
same_two R (t ∷ rest) before after h =
    let further = same_two R rest h.0 after h.2 in
    let tells = h.1 in
    record { audience = further.audience ∙ tells.audience_name; watch = further.watch ∙ tells.watch_name }

-- the audience hears each
pub audience_hears : {W : Type 0} (R : W → Watched → W → Type 0) (ts : List Told) (before after : Telling W) →
    Reached (IsTelling R) before ts after →
    Reached (λ (a : Audience) (t : Told) (b : Audience). IsShort t → Tells a t b) before.audience.now ts
    after.audience.now
audience_hears R [] before after h = ap (λ t. t.audience.now) h
audience_hears R (t ∷ rest) before after h = (h.0.audience.now, h.1.audience, audience_hears R rest h.0 after h.2)

-- who they are stays as they hear
who_listen : (made : List Made) (t : Told) (live : List Live) → map who (map (listens made t) live) ≡ map who live
who_listen made t [] = refl
who_listen made t (l ∷ live) = ap (λ (ns : List Numbered). who l ∷ ns) (who_listen made t live)

-- who watches is told what of it the shell is told
pub watcher_told : {W : Type 0} (R : W → Watched → W → Type 0) (ts : List Told) (before after : Telling W) →
    Reached (IsTelling R) before ts after → AllByRecursion IsShort ts →
    Reached R before.watch.now
    (shown_by before.number before.audience.now.directory.made (map who before.audience.now.live.items) ts)
    after.watch.now
watcher_told R [] before after h short = ap (λ t. t.watch.now) h
watcher_told R (t ∷ rest) before after h short =
    let one = h.1 in
    let tells = one.audience short.0 in
    let n = before.number in
    let audience = before.audience.now in
    let peers : List Numbered = map who audience.live.items in
    let next = h.0.audience.now in
    let same : map who next.live.items ≡ peers =
    ap (map who) tells.live ∙ who_listen audience.directory.made t audience.live.items in
    reached_append R (shown n audience.directory.made peers t.event) (shown_by n audience.directory.made peers rest)
    before.watch.now h.0.watch.now after.watch.now one.watch
    (subst (λ (ps : List Numbered). Reached R h.0.watch.now
    (shown_by n audience.directory.made ps rest) after.watch.now) same
    (subst (λ (d : Directed). Reached R h.0.watch.now
    (shown_by n d.made (map who next.live.items) rest) after.watch.now) tells.directory
    (subst (λ (m : ℕ). Reached R h.0.watch.now
    (shown_by m next.directory.made (map who next.live.items) rest) after.watch.now) one.number
    (watcher_told R rest h.0 after h.2 short.1))))
