-- Where a key went, and why, in words.
use Rattle.std.specs.Prelude.{ℕ, List, [], Bool, true, false, codes, if◌then◌else◌, Option, Some, None}
use Rattle.relay_model.specs.declared.act.Act.{Act}
use Rattle.relay_model.specs.declared.act.Act.TheVariants as acts
use Rattle.relay_model.specs.Keys.{standing}
use Rattle.relay_model.specs.Idle.{history, is_live}
use Rattle.lines_explained.specs.declared.key_way.KeySent.{KeySent}
use Rattle.lines_explained.specs.declared.key_way.KeyWay.{KeyWay}
use Rattle.lines_explained.specs.declared.key_way.KeyWay.TheVariants.{ToGrab, ToShell, PastGrab, PastOwn, Nowhere}
use Rattle.lines_explained.specs.Phrase.{phrase}

-- what is known of a key before it is sent
abbrev pub sent_where : Bool → Bool → Option ℕ → Option KeySent
sent_where true of_board grab = Some (record { of_board = of_board; standing = grab })
sent_where false of_board grab = None

-- the act sends a key after these acts; one that is refused sends none
abbrev pub key_before : Act → List Act → Option KeySent
key_before (acts.Key time key state) log =
    sent_where (is_live (acts.Key time key state) (history log)) false (standing (history log))
key_before (acts.VKey v time key state) log =
    sent_where (is_live (acts.VKey v time key state) (history log)) true (standing (history log))
key_before _ log = None

-- a key that the shell was told, by the grab that stands
abbrev pub way_past : Bool → Option ℕ → KeyWay
way_past of_board None = ToShell
way_past false (Some g) = PastGrab g
way_past true (Some g) = PastOwn g

-- a key that the shell wasn't told, by the grab that stands, and whether a group was put
abbrev pub way_in : Option ℕ → Bool → KeyWay
way_in (Some g) true = ToGrab g
way_in (Some g) false = Nowhere (Some g)
way_in None put = Nowhere None

-- by what was watched: whether the shell was told the key, and whether a group was put
abbrev pub way_of : KeySent → (passed put : Bool) → KeyWay
way_of sent passed put =
    (if passed then way_past sent.of_board sent.standing else way_in sent.standing put)

-- where it went, and why
abbrev pub way_words : KeyWay → List ℕ
way_words (ToGrab g) = phrase (codes ", goes to grab") (Some g) (codes "") None
way_words ToShell = codes ", passes to the shell: no grab stands"
way_words (PastGrab g) =
    phrase (codes ", passes to the shell: grab") (Some g) (codes " did not get its press") None
way_words (PastOwn g) =
    phrase (codes ", passes to the shell: grab") (Some g)
    (codes " is its own client's or did not get its press") None
way_words (Nowhere None) = codes ", goes nowhere: the grab that got its press stands no more"
way_words (Nowhere (Some g)) =
    phrase (codes ", goes nowhere: grab") (Some g)
    (codes " did not get its press or had no room") None

-- the same of a key that may have been sent
abbrev pub key_end_words : Option KeySent → (passed put : Bool) → List ℕ
key_end_words None passed put = []
key_end_words (Some sent) passed put = way_words (way_of sent passed put)
