-- What one thing told is to all who may hear it.
use Rattle.std.proofs.Common.{◌≡◌, ℕ, Bool, true, false, List, [], ◌∷◌, map, Option, Some, None, refl, sym, ap, ◌∙◌}
use Rattle.std.specs.Prelude.{◌==◌, if◌then◌else◌}
use Rattle.std.proofs.lemmas.Bool.{eq-eqb, eqb-true, ne_eqb, true≢false}
use Rattle.wl_proto.specs.Rows.{Message}
use Rattle.relay_model.specs.declared.said.Told.{Told}
use Rattle.broker_model.specs.Ids.{Made, made_as}
use Rattle.broker_model.specs.Groups.{message_of}
use Rattle.broker_audience.specs.declared.directory.Named.{Named}
use Rattle.broker_audience.specs.declared.live.Live.{Live}
use Rattle.broker_audience.specs.Directed.{made_of}
use Rattle.broker_audience.specs.Gathered.{Gathered, with_message}
use Rattle.broker_audience.specs.Heard.{with_event, hears_at}
use Rattle.broker_audience.specs.Lives.{listens, hears_message}

-- two changes that agree on each
all_alike : (f g : Live → Live) (live : List Live) → ((l : Live) → f l ≡ g l) → map f live ≡ map g live
all_alike f g [] h = refl
all_alike f g (l ∷ rest) h = cc (h l, all_alike f g rest h)

all_stay : (g : Live → Live) (live : List Live) → ((l : Live) → l ≡ g l) → live ≡ map g live
all_stay g [] h = refl
all_stay g (l ∷ rest) h = cc (h l, all_stay g rest h)

-- told to what was never made
pub unheard : (made : List Made) (t : Told) (live : List Live) → made_as made t.to ≡ None →
    live ≡ map (listens made t) live
unheard made t live h =
    all_stay (listens made t) live
    (λ l. ap (λ (o : Option Made). record l { gathering = hears_at made l.label t.event o l.gathering }) (sym h))

at_none : (p id peer : ℕ) (g : Gathered) → (if peer == p then with_event id None g else g) ≡ g
at_none p id peer g = step (peer == p) id g
  where
    step : (b : Bool) (id : ℕ) (g : Gathered) → (if b then with_event id None g else g) ≡ g
    step true id g = refl
    step false id g = refl

silent_at : (made : List Made) (p : ℕ) (t : Told) (o : Option Made) (g : Gathered) → message_of made t.event ≡ None →
    hears_at made p t.event o g ≡ g
silent_at made p t None g h = refl
silent_at made p t (Some m) g h = rw h (at_none p m.id m.peer g)

-- told without a message
pub silent : (made : List Made) (t : Told) (live : List Live) → message_of made t.event ≡ None →
    live ≡ map (listens made t) live
silent made t live h =
    all_stay (listens made t) live
    (λ l. ap (λ (g : Gathered). record l { gathering = g })
    (sym (silent_at made l.label t (made_as made t.to) l.gathering h)))

hears_alike : (to : Named) (m : Message) (l : Live) →
    hears_message to m l
    ≡ record l { gathering = (if to.peer == l.label then with_message to.id m l.gathering else l.gathering) }
hears_alike to m l = step to m l (l.label == to.peer) refl
  where
    step : (to : Named) (m : Message) (l : Live) (b : Bool) → (l.label == to.peer) ≡ b →
        hears_message to m l
        ≡ record l { gathering = (if to.peer == l.label then with_message to.id m l.gathering else l.gathering) }
    step to m l true e = rw (e, eq-eqb to.peer l.label (sym (eqb-true _ _ e))) refl
    step to m l false e =
        rw (e, ne_eqb to.peer l.label (λ same. true≢false (sym (eq-eqb l.label to.peer (sym same)) ∙ e))) refl

-- told with a message, to an object
pub heard_by : (made : List Made) (t : Told) (to : Named) (m : Message) (live : List Live) →
    made_as made t.to ≡ Some (made_of to) →
    message_of made t.event ≡ Some m → map (hears_message to m) live ≡ map (listens made t) live
heard_by made t to m live to_whom what =
    all_alike (hears_message to m) (listens made t) live
    (λ l.
    hears_alike to m l
    ∙ ap (λ (o : Option Message). record
    l { gathering = (if to.peer == l.label then with_event to.id o l.gathering else l.gathering) }) (sym what)
    ∙ ap (λ (o : Option Made). record l { gathering = hears_at made l.label t.event o l.gathering }) (sym to_whom))
