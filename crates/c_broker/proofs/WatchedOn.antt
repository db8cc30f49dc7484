-- What the shell is told over two calls.
use Rattle.std.proofs.Common.{◌≡◌, ℕ, ◌+◌, List, [], ◌∷◌, ◌++◌, length, refl, ap, sym, subst, ◌∙◌, arith, append_assoc, length-append}
use Rattle.std.specs.Prelude.{Result, Ok, Err, OnOk, OnErr}
use Rattle.broker_steps.specs.declared.stamp.Stamp.{Stamp}
use Rattle.broker_model.specs.declared.journal.Entry.TheVariants as entries
use Rattle.broker_core.specs.declared.answers.Took.{Took}
use Rattle.broker_core.specs.declared.answers.Took.TheVariants as took
use Rattle.broker_core.specs.Reached.{Reached}
use Rattle.broker_core.proofs.TellsAppend.{reached_append}
use Rattle.broker_model.specs.declared.journal.Entry.{Entry}
use Rattle.broker_model.specs.Settle.{number_alive}
use Rattle.broker_core.specs.Broker.{Broker, with_step, letting_go, IsWatched, IfBytes, IfNoBytes}
use Rattle.broker_core.specs.Watched.{Watched, watched_since}
use Rattle.broker_core.proofs.WatchedSince.{since_none, since_append, settled_more}
use Rattle.c_broker.specs.Ears.{Waits, Hears}
use Rattle.c_broker.specs.Steps.{IsMore, Hearing}
use Rattle.c_broker.specs.Seated.{all_gone}

more_none : (journal : List Entry) → IsMore journal journal
more_none journal = record { more = []; is = refl }

more_both : (a b c : List Entry) → IsMore a b → IsMore b c → IsMore a c
more_both a b c h k = record {
  more = k.more ++ h.more;
  is = k.is ∙ ap (λ (l : List Entry). k.more ++ l) h.is ∙ sym (append_assoc k.more h.more a);
}

pub heard_none : (b : Broker) (ears : Waits) → Hearing b ears b ears
heard_none b ears = record {
  limits = refl;
  grew = more_none b.journal;
  told = subst (λ (events : List Watched). Reached Hears ears events ears)
      (sym (since_none b.limits.store b.journal)) refl;
}

-- one step
pub heard_step : (e : Entry) (given : Stamp) (b after : Broker) (ears ears_after : Waits) →
    after ≡ with_step e given b → IsWatched Hears b ears after ears_after → Hearing b ears after ears_after
heard_step e given b after ears ears_after is told =
    let m = settled_more b.limits.store (number_alive (e ∷ b.journal)) (e ∷ b.journal) in
    record {
      limits = ap (λ (x : Broker). x.limits) is;
      grew = record {
        more = m.more ++ e ∷ [];
        is = ap (λ (x : Broker). x.journal) is ∙ m.is ∙ sym (append_assoc m.more (e ∷ []) b.journal);
      };
      told = told;
    }

-- nothing was done, and nothing is told
pub heard_same : (b after : Broker) (ears ears_after : Waits) → after ≡ b → IsWatched Hears b ears after ears_after →
    Hearing b ears after ears_after
heard_same b after ears ears_after is told = record {
  limits = ap (λ (x : Broker). x.limits) is;
  grew = record { more = []; is = ap (λ (x : Broker). x.journal) is };
  told = told;
}

pub heard_both : (a b c : Broker) (u v w : Waits) → Hearing a u b v → Hearing b v c w → Hearing a u c w
heard_both a b c u v w h k =
    let store = a.limits.store in
    let long : length b.journal ≡ length h.grew.more + length a.journal =
    ap length h.grew.is ∙ length-append h.grew.more a.journal in
    let events : watched_since store (length a.journal) c.journal
    ≡ watched_since store (length a.journal) b.journal ++ watched_since store (length b.journal) c.journal =
    ap (watched_since store (length a.journal)) k.grew.is
    ∙ since_append store (length a.journal) k.grew.more b.journal (omega arith)
    ∙ ap (λ (l : List Entry). watched_since store (length a.journal) b.journal
    ++ watched_since store (length b.journal) l) (sym k.grew.is) in
    let later : Reached Hears v (watched_since store (length b.journal) c.journal) w =
    subst (λ n. Reached Hears v (watched_since n (length b.journal) c.journal) w)
    (ap (λ l. l.store) h.limits) k.told in
    record {
      limits = k.limits ∙ h.limits;
      grew = more_both a.journal b.journal c.journal h.grew k.grew;
      told = subst (λ (l : List Watched). Reached Hears u l w) (sym events)
          (reached_append Hears (watched_since store (length a.journal) b.journal)
          (watched_since store (length b.journal) c.journal) u v w h.told later);
    }

-- entries that are let go tell nothing
pub heard_gone : (a b : Broker) (n : ℕ) (after : Broker) (u v : Waits) → after ≡ letting_go n b → Hearing a u b v →
    Hearing a u after v
heard_gone a b n after u v is h = subst (λ (x : Broker). Hearing a u x v) (sym is)
    (record { limits = h.limits; grew = record { more = h.grew.more; is = h.grew.is }; told = h.told })

-- by what a call answered
pub heard_by : {T E : Type 0} (r : Result T E) (e : Entry) (given : Stamp) (b after : Broker)
    (ears ears_after : Waits) → OnOk r (after ≡ with_step e given b) → OnErr r (after ≡ b) →
    IsWatched Hears b ears after ears_after → Hearing b ears after ears_after
heard_by (Ok x) e given b after ears ears_after ok err told = heard_step e given b after ears ears_after ok told
heard_by (Err x) e given b after ears ears_after ok err told = heard_same b after ears ears_after err told

pub heard_took : (r : Took) (q : ℕ) (given : Stamp) (b after : Broker) (ears ears_after : Waits) →
    IfBytes r (λ counts. after ≡ with_step (entries.Took q counts.0) given b) → IfNoBytes r (after ≡ b) →
    IsWatched Hears b ears after ears_after → Hearing b ears after ears_after
heard_took (took.Bytes x y) q given b after ears ears_after ok err told =
    heard_step (entries.Took q x) given b after ears ears_after ok told
heard_took took.NoPeer q given b after ears ears_after ok err told = heard_same b after ears ears_after err told
heard_took took.Closed q given b after ears ears_after ok err told = heard_same b after ears ears_after err told
heard_took took.Empty q given b after ears ears_after ok err told = heard_same b after ears ears_after err told
heard_took (took.JournalFull kept) q given b after ears ears_after ok err told =
    heard_same b after ears ears_after err told
heard_took took.NoMemory q given b after ears ears_after ok err told = heard_same b after ears ears_after err told

pub took_gone : (r : Took) (q : ℕ) (given : Stamp) (b mid after : Broker) →
    IfBytes r (λ counts. mid ≡ with_step (entries.Took q counts.0) given b) → after ≡ all_gone mid →
    IfBytes r (λ counts. after ≡ all_gone (with_step (entries.Took q counts.0) given b))
took_gone (took.Bytes x y) q given b mid after ok is = is ∙ ap all_gone ok
took_gone took.NoPeer q given b mid after ok is = tt
took_gone took.Closed q given b mid after ok is = tt
took_gone took.Empty q given b mid after ok is = tt
took_gone (took.JournalFull kept) q given b mid after ok is = tt
took_gone took.NoMemory q given b mid after ok is = tt

-- and then all entries are let go
pub heard_let : (a b after : Broker) (u v w : Waits) → after ≡ all_gone b → w ≡ v → Hearing a u b v →
    Hearing a u after w
heard_let a b after u v w is same h =
    subst (λ (x : Waits). Hearing a u after x) (sym same) (heard_gone a b (length b.journal) after u v is h)
