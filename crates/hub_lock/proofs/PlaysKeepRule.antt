-- A play of a call keeps to the rule
use Rattle.std.proofs.Common.{◌≡◌, ℕ, length, ap, sym, subst, ◌∙◌}
use Rattle.broker_steps.specs.declared.limits.Limits.{Limits}
use Rattle.broker_core.specs.Broker.{Broker, IsWatched}
use Rattle.broker_core.specs.Watched.{watched_since}
use Rattle.hub_lock.specs.declared.call.Answer.{Answer}
use Rattle.hub_lock.specs.declared.call.Call.{Call}
use Rattle.hub_lock.specs.declared.rings.Rings.{Rings}
use Rattle.hub_lock.specs.Histories.{broker_of}
use Rattle.hub_lock.specs.Lawful.{Held, IsShared, IsLawful, IsKept, history_of, with_all}
use Rattle.hub_lock.specs.Bells.{AreRung, IsRungBy}
use Rattle.hub_lock.specs.Plays.{MayAsk, Answers, Plays}
use Rattle.hub_lock.proofs.BellsRung.{all-rung}
use Rattle.hub_lock.proofs.KeptAfterStep.{lawful}

-- what is behind the lock is a shared state that keeps what it keeps
pub record IsSound (h : Held) : Type 0 where
  pub kept : IsKept h.broker h.readers
  pub shared : IsShared h.broker

pub plays-by : (h h' : Held) (call call' : Call) (answer : Answer) (rings rings' : Rings) (entries : ℕ) → IsSound h →
    IsSound h'
    → h'.broker.limits ≡ h.broker.limits
    → (MayAsk (history_of h.broker h.readers) call.number call.ask →
    Answers h.broker.limits (history_of h.broker h.readers) call.number call.ask
    (history_of h'.broker h'.readers) call'.ask answer)
    → entries ≡ length h'.broker.journal → rings.bits ≡ 0 → IsWatched IsRungBy h.broker rings h'.broker rings'
    → Plays h.broker.limits (history_of h.broker h.readers) call (history_of h'.broker h'.readers) call'
    (record { answer = answer; rings = rings'.bits; entries = entries })
plays-by h h' call call' answer rings rings' entries s s' l answers number none watched =
    let limits : Limits = h.broker.limits in
    let before : broker_of limits (history_of h.broker h.readers) ≡ with_all h.broker = s.kept.is in
    let after : broker_of limits (history_of h'.broker h'.readers) ≡ with_all h'.broker =
    ap (λ (x : Limits). broker_of x (history_of h'.broker h'.readers)) (sym l) ∙ s'.kept.is in
    let rung : AreRung rings'.bits (watched_since limits.store (length h.broker.journal) h'.broker.journal) =
    all-rung rings (watched_since limits.store (length h.broker.journal) h'.broker.journal) rings' none watched in
    record {
      lawful = lawful h.broker h.readers s.kept s.shared;
      lawful_after =
          subst (λ (x : Limits). IsLawful x (history_of h'.broker h'.readers)) l
          (lawful h'.broker h'.readers s'.kept s'.shared);
      answers = answers;
      entries = number ∙ ap (λ (x : Broker). length x.journal) (sym after);
      rings = subst
          (λ (x : Broker). AreRung rings'.bits
          (watched_since limits.store (length x.journal) (broker_of limits (history_of h'.broker h'.readers)).journal))
          (sym before)
          (subst (λ (x : Broker). AreRung rings'.bits (watched_since limits.store (length h.broker.journal) x.journal))
          (sym after) rung);
    }
