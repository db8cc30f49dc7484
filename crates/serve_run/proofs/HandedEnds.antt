-- What a record holds at its beginning, while it is written, and at its end
use Rattle.std.proofs.Common.{◌≡◌, inr, ◌≤◌, ◌++◌, [], ℕ, List, length, Option, Result, Ok, Err, OnOk, OnErr, IfOk, refl, sym, ap, ◌∙◌, subst, append-nil}
use Rattle.std.specs.Io.KnownBytes.{Appends}
use Rattle.broker_steps.specs.declared.limits.Limits.{Limits}
use Rattle.broker_core.specs.declared.letting_go.LetGo.{LetGo}
use Rattle.session_text.specs.declared.line.Line.TheVariants.{Header, End}
use Rattle.hub_lock.specs.Histories.{History, broker_of}
use Rattle.hub_lock.specs.Passes.{HubId, PassSeat, IsOf, journal_with, journal_seen}
use Rattle.serve_record.specs.declared.record.RecordStop.{RecordStop}
use Rattle.serve_record.specs.Recorded.{text_line}
use Rattle.serve_record.specs.Lines.{Holds, GainsFront}
use Rattle.serve_record.specs.Handed.{handed_text}
use Rattle.serve_record.proofs.RecordGrows.{appends_none, holds_then_whole, holds_then_front}
use Rattle.serve_run.specs.Written.{EndsHanded, AreAllHanded}

-- the header waits, and nothing was handed out

pub begun : (limits : Limits) (held : Option (List ℕ)) (waits : List ℕ) (handed : List LetGo)
    → waits ≡ text_line (Header limits) → handed ≡ [] → Holds held held waits (handed_text limits handed)
begun limits held waits handed e none =
    subst (λ l. Holds held held waits (handed_text limits l)) (sym none)
    ([], appends_none held, e ∙ sym (append-nil (text_line (Header limits))))

-- what a call tells that failed
pub on_lack : {T E : Type 0} (r : Result T E) (P : T → Type 0) (Q : Type 0) → OnOk r ⊥ → Q → IfOk r P × OnErr r Q
on_lack (Ok x) P Q never q = absurd never
on_lack (Err e) P Q never q = (tt, q)

pub nothing_yet : (limits : Limits) (held : Option (List ℕ)) (handed : List LetGo)
    → GainsFront held held (handed_text limits handed)
nothing_yet limits held handed = ([], handed_text limits handed, appends_none held, refl)

-- all that the root has seen was handed out, where the count says so
pub all_handed : (hub : HubId) (pass : History) (root : PassSeat) (handed : List LetGo) (count seen : ℕ) → IsOf hub root
    → length (broker_of hub.limits pass).journal ≤ length handed → count ≡ length handed
    → seen ≡ length (journal_seen root) → seen ≤ count → AreAllHanded hub.limits pass root.seen handed
all_handed hub pass root handed count seen of few many is le =
    let j : length (journal_seen root) ≡ length (broker_of hub.limits root.seen).journal =
    ap (λ c. length (journal_with c root.seen)) of.1 in
    (few, subst (λ n. n ≤ length handed) (is ∙ j) (subst (λ n. seen ≤ n) many le))

-- the end

pub ends_by : (limits : Limits) (held c d : Option (List ℕ)) (h g : History) (waits : List ℕ) (handed : List LetGo)
    → Holds held c waits (handed_text limits handed) → AreAllHanded limits h g handed
    → (r : Result (Unit {0}) RecordStop) → OnOk r (Appends c d (waits ++ text_line End))
    → OnErr r (GainsFront c d (waits ++ text_line End)) → EndsHanded limits held d h g handed r
ends_by limits held c d h g waits handed holds all (Ok done) whole front = (
  (all, holds_then_whole held c d waits (text_line End) (handed_text limits handed) holds whole),
  tt,
)
ends_by limits held c d h g waits handed holds all (Err stop) whole front = (
  tt,
  inr (all, holds_then_front held c d waits (text_line End) (handed_text limits handed) holds front),
)
