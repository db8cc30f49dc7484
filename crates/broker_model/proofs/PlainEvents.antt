-- Events that name no object: what a method is told of a field, a batch, and what a grab is told of the keyboard.
use Rattle.std.proofs.Common.{◌≡◌, ℕ, List, [], ◌∷◌, length, Option, Some, None, refl}
use Rattle.std.specs.Prelude.{◌==◌, ◌&&◌}
use Rattle.std.specs.List.{AllByRecursion}
use Rattle.relay_model.specs.declared.act.Act.{Act}
use Rattle.relay_model.specs.declared.act.Act.TheVariants as acts
use Rattle.relay_model.specs.declared.said.Said.{Said}
use Rattle.relay_model.specs.declared.said.Said.TheVariants as said
use Rattle.relay_model.specs.Hold.{holder}
use Rattle.relay_model.specs.Current.{Around, current}
use Rattle.relay_model.specs.Activation.{Notice, Activates, Updates, Deactivates}
use Rattle.relay_model.specs.Batch.{Batch, deletion_said, string_said, is_no_preedit, preedit_said, group, group_of, batch, commit_count}
use Rattle.relay_model.specs.Keys as keys
use Rattle.relay_model.specs.Keys.{last_keymap, last_repeat, last_mods}
use Rattle.relay_model.specs.Told.{around_said, holders_state, notice_said, keymap_said, repeat_said, mods_said, keyboard_said}
use Rattle.broker_model.proofs.EachElement.{either_way, each_append}
use Rattle.broker_model.specs.Living.{named}

abbrev pub IsPlain : Said → Type 0
IsPlain event = named event ≡ []

abbrev pub ArePlain : List Said → Type 0
ArePlain events = AllByRecursion IsPlain events

around_plain : (o : Option Around) (cause : ℕ) → ArePlain (around_said o cause)
around_plain None cause = tt
around_plain (Some around) cause = (refl, (refl, tt))

holder_plain : (log : List Act) (o : Option ℕ) → ArePlain (holders_state log o)
holder_plain log None = tt
holder_plain log (Some h) =
    each_append IsPlain (around_said (current log h).surrounding (current log h).cause)
    (said.ContentType (current log h).content.hint (current log h).content.purpose ∷ said.MethodDone ∷ [])
    (around_plain (current log h).surrounding (current log h).cause) (refl, (refl, tt))

pub notice_plain : (log : List Act) (o : Option Notice) → ArePlain (notice_said log o)
notice_plain log None = tt
notice_plain log (Some Activates) = (refl, holder_plain log (holder log))
notice_plain log (Some Updates) = holder_plain log (holder log)
notice_plain log (Some Deactivates) = (refl, (refl, tt))

group_plain : (b : Batch) (count : ℕ) → ArePlain (group b count)
group_plain b count =
    each_append IsPlain (deletion_said b.deletion) _
    (either_way (AllByRecursion IsPlain) ((b.deletion.before == 0) && (b.deletion.after == 0)) []
    (said.Delete b.deletion.before b.deletion.after ∷ []) tt (refl, tt))
    (each_append IsPlain (string_said b.string) _
    (either_way (AllByRecursion IsPlain) (length b.string == 0) [] (said.CommitString b.string ∷ []) tt (refl, tt))
    (each_append IsPlain (preedit_said b.preedit) (said.FieldDone count ∷ [])
    (either_way (AllByRecursion IsPlain) (is_no_preedit b.preedit) []
    (said.Preedit b.preedit.text b.preedit.begin b.preedit.end ∷ []) tt (refl, tt)) (refl, tt)))

pub batch_plain : (act : Act) (log : List Act) (f : ℕ) → ArePlain (group_of act log f)
batch_plain (acts.MCommit m serial) log f = group_plain (batch log m) (commit_count log f)
batch_plain _ log f = tt

keymap_plain : (o : Option keys.Keymap) → ArePlain (keymap_said o)
keymap_plain None = tt
keymap_plain (Some k) = (refl, tt)

repeat_plain : (o : Option keys.Repeat) → ArePlain (repeat_said o)
repeat_plain None = tt
repeat_plain (Some r) = (refl, tt)

mods_plain : (n : ℕ) (o : Option keys.Mods) → ArePlain (mods_said n o)
mods_plain n None = tt
mods_plain n (Some m) = (refl, tt)

pub keyboard_plain : (n : ℕ) (log : List Act) → ArePlain (keyboard_said n log)
keyboard_plain n log =
    each_append IsPlain (keymap_said (last_keymap log)) _ (keymap_plain (last_keymap log))
    (each_append IsPlain (repeat_said (last_repeat log)) (mods_said n (last_mods log)) (repeat_plain (last_repeat log))
    (mods_plain n (last_mods log)))
