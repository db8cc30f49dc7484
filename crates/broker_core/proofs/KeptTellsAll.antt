-- Live peers hear, and a watcher is shown, the same of what is told by what is kept as by all that was made.
use Rattle.std.proofs.Common.{◌≡◌, ℕ, List, [], ◌∷◌, ◌++◌, map, Option, Some, None, ap, refl, ◌∙◌}
use Rattle.std.specs.Prelude.{◌==◌, if◌then◌else◌}
use Rattle.std.specs.List.{AllByRecursion, flat_map}
use Rattle.wl_proto.specs.Rows.{Message}
use Rattle.relay_model.specs.declared.said.Told.{Told}
use Rattle.relay_model.specs.declared.said.Said.{Said}
use Rattle.relay_model.specs.declared.said.Said.TheVariants as said
use Rattle.broker_model.specs.Ids.{Made, made_as}
use Rattle.broker_model.specs.Groups.{id_of, message_of}
use Rattle.broker_model.specs.Living.{named}
use Rattle.broker_model.specs.Enough.{IsAlike}
use Rattle.broker_audience.specs.declared.live.Live.{Live}
use Rattle.broker_audience.specs.Gathered.{Gathered}
use Rattle.broker_audience.specs.Heard.{with_event, hears_at, hears, heard}
use Rattle.broker_audience.specs.Lives.{Numbered, who, cleared, has_heard, delivered, told_all}
use Rattle.broker_core.specs.Watched.{Watched, number_at, maker, shown, shown_by, gathered_put, told_live}
use Rattle.broker_core.specs.Watched.Watched.{Placed}

-- ---- what a live peer hears

object_hears : (made kept : List Made) (p : ℕ) (event : Said) (o : Option Made) (g : Gathered) →
    message_of kept event ≡ message_of made event → hears_at kept p event o g ≡ hears_at made p event o g
object_hears made kept p event None g e = refl
object_hears made kept p event (Some m) g e =
    ap (λ (x : Option Message). if m.peer == p then with_event m.id x g else g) e

hears_alike : (made kept : List Made) (p : ℕ) (t : Told) (g : Gathered) → IsAlike made kept t →
    hears kept p t g ≡ hears made p t g
hears_alike made kept p t g h =
    ap (λ (o : Option Made). hears_at kept p t.event o g) h.to
    ∙ object_hears made kept p t.event (made_as made t.to) g h.message

heard_alike : (made kept : List Made) (p : ℕ) (ts : List Told) (g : Gathered) → AllByRecursion (IsAlike made kept) ts →
    heard kept p ts g ≡ heard made p ts g
heard_alike made kept p [] g h = refl
heard_alike made kept p (t ∷ rest) g h =
    ap (heard kept p rest) (hears_alike made kept p t g h.0) ∙ heard_alike made kept p rest (hears made p t g) h.1

has_heard_alike : (made kept : List Made) (ts : List Told) (l : Live) → AllByRecursion (IsAlike made kept) ts →
    has_heard kept ts l ≡ has_heard made ts l
has_heard_alike made kept ts l h =
    ap (λ (g : Gathered). let u : Live = record l { gathering = g } in u)
    (heard_alike made kept l.label ts l.gathering h)

pub all_told_alike : (made kept : List Made) (ts : List Told) (live : List Live) →
    AllByRecursion (IsAlike made kept) ts → map (told_all kept ts) live ≡ map (told_all made ts) live
all_told_alike made kept ts [] h = refl
all_told_alike made kept ts (l ∷ live) h =
    ap (λ (x : Live). x ∷ map (told_all kept ts) live) (ap delivered (has_heard_alike made kept ts (cleared l) h))
    ∙ ap (λ (xs : List Live). told_all made ts l ∷ xs) (all_told_alike made kept ts live h)

all_heard_alike : (made kept : List Made) (ts : List Told) (live : List Live) → AllByRecursion (IsAlike made kept) ts →
    map (has_heard kept ts) live ≡ map (has_heard made ts) live
all_heard_alike made kept ts [] h = refl
all_heard_alike made kept ts (l ∷ live) h =
    ap (λ (x : Live). x ∷ map (has_heard kept ts) live) (has_heard_alike made kept ts l h)
    ∙ ap (λ (xs : List Live). has_heard made ts l ∷ xs) (all_heard_alike made kept ts live h)

-- ---- what a watcher is shown

shown_alike : (n : ℕ) (made kept : List Made) (peers : List Numbered) (event : Said) →
    AllByRecursion (λ x. made_as kept x ≡ made_as made x) (named event) →
    shown n kept peers event ≡ shown n made peers event
shown_alike n made kept peers (said.Placed popup x y) h =
    ap (λ (o : Option Made). Placed n (number_at peers (maker o)) (id_of o) x y ∷ []) h.0
shown_alike n made kept peers _ h = refl

shown_by_alike : (n : ℕ) (made kept : List Made) (peers : List Numbered) (ts : List Told) →
    AllByRecursion (IsAlike made kept) ts → shown_by n kept peers ts ≡ shown_by n made peers ts
shown_by_alike n made kept peers [] h = refl
shown_by_alike n made kept peers (t ∷ rest) h =
    ap (λ (ws : List Watched). ws ++ shown_by n kept peers rest) (shown_alike n made kept peers t.event h.0.names)
    ∙ ap (λ (ws : List Watched). shown n made peers t.event ++ ws) (shown_by_alike n made kept peers rest h.1)

pub told_live_alike : (n : ℕ) (made kept : List Made) (live : List Live) (ts : List Told) →
    AllByRecursion (IsAlike made kept) ts → told_live n kept live ts ≡ told_live n made live ts
told_live_alike n made kept live ts h =
    ap
    (λ (ws : List Watched). ws ++ flat_map (gathered_put n) (map (has_heard kept ts) (map cleared live)))
    (shown_by_alike n made kept (map who live) ts h)
    ∙ ap (λ (ls : List Live). shown_by n made (map who live) ts ++ flat_map (gathered_put n) ls)
    (all_heard_alike made kept ts (map cleared live) h)
