-- What acts tell whose texts fit a message are messages that fit, so the texts that are handed out are short.
use Rattle.std.proofs.Common.{◌≡◌, ◌≤◌, ℕ, List, [], ◌∷◌, ◌++◌, map, length, Option, Some, None, true, arith}
use Rattle.std.specs.Prelude.{IfSome}
use Rattle.std.specs.List.{AllByRecursion, flat_map}
use Rattle.std.proofs.lemmas.Bool.{leb-true}
use Rattle.wl_proto.specs.declared.interface.Interface.TheVariants as interface
use Rattle.wl_proto.specs.Grammar.{word, signed, text}
use Rattle.wl_proto.specs.Rows.{message}
use Rattle.wl_proto.specs.Spelling.{message_len}
use Rattle.relay_model.specs.declared.act.Act.{Act}
use Rattle.relay_model.specs.declared.act.Act.TheVariants as acts
use Rattle.relay_model.specs.declared.said.Said.{Said}
use Rattle.relay_model.specs.declared.said.Said.TheVariants as said
use Rattle.relay_model.specs.Told.{told}
use Rattle.relay_core.specs.Fits.{FitsMessage}
use Rattle.relay_core.specs.Bounds.{text_of}
use Rattle.broker_telling.specs.Tells.{IsShort}
use Rattle.broker_model.specs.Ids.{Made}
use Rattle.broker_model.specs.Groups.{message_of}
use Rattle.broker_model.proofs.EachElement.{each_append, each_weaker, each_flat}
use Rattle.broker_core.proofs.ToldMessagesFit.{all_short}
use Rattle.c_relay.specs.declared.event.Event.{Event}
use Rattle.c_relay.specs.Events.{Heard, event_of, heard_at, heard_of, hidden_heard}
use Rattle.c_relay.specs.Hidden.{hidden}
use Rattle.c_relay.specs.Seated.{fits}
use Rattle.c_library.specs.TextsFit.{HandedTextsFit}

-- what a seat tests of an act that it takes
fitting : (act : Act) → fits act ≡ true → FitsMessage act
fitting (acts.Surround f t cursor anchor) e = leb-true (length t) 4075 e
fitting (acts.MString m t) e = leb-true (length t) 4083 e
fitting (acts.MPreedit m t begin end) e = leb-true (length t) 4075 e
fitting _ e = tt

abbrev HasShortText : Heard → Type 0
HasShortText h = length h.text ≤ 4083

-- the text of a message of at most 4096 bytes
short_text : (event : Said) → ((made : List Made) → IfSome (message_of made event) (λ m. message_len m ≤ 4096)) →
    length (text_of event) ≤ 4083
short_text (said.Preedit t begin end) s =
    let m : message_len (message interface.TextInput 2 (text t ∷ signed begin ∷ signed end ∷ [])) ≤ 4096 = s [] in
    omega arith
short_text (said.CommitString t) s =
    let m : message_len (message interface.TextInput 3 (text t ∷ [])) ≤ 4096 = s [] in
    omega arith
short_text (said.Surrounding t cursor anchor) s =
    let m : message_len (message interface.InputMethod 2 (text t ∷ word cursor ∷ word anchor ∷ [])) ≤ 4096 = s [] in
    omega arith
short_text _ s = omega arith

-- it is the text of what is heard, if anything is
short_heard : (o : Option Event) (t : List ℕ) → length t ≤ 4083 → AllByRecursion HasShortText (heard_at o t)
short_heard None t h = tt
short_heard (Some event) t h = (h, tt)

-- that a popup is hidden has no text
hidden_short : (popups : List ℕ) → AllByRecursion HasShortText (map hidden_heard popups)
hidden_short [] = tt
hidden_short (x ∷ xs) = (omega arith, hidden_short xs)

pub handed_fit : HandedTextsFit
handed_fit act log h =
    each_append HasShortText (flat_map heard_of (told act log)) (map hidden_heard (hidden act log))
    (each_flat HasShortText heard_of (told act log)
    (each_weaker IsShort (λ t. AllByRecursion HasShortText (heard_of t)) (told act log)
    (λ t s. short_heard (event_of t) (text_of t.event) (short_text t.event s))
    (all_short act log (fitting act h.0) (each_weaker (λ a. fits a ≡ true) FitsMessage log fitting h.1))))
    (hidden_short (hidden act log))
