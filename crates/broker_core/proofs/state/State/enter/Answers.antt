use Rattle.std.proofs.Common.{rules, ◌≡◌, ◌∷◌, ◌≤◌, ◌+◌, ℕ, suc, List, length, map, subst, sym, ap, ◌∙◌, arith}
use Rattle.std.specs.List.{AllByRecursion}
use Rattle.relay_model.specs.declared.act.Act.{Act}
use Rattle.relay_model.specs.Told.{told}
use Rattle.relay_core.specs.Stands as relay
use Rattle.broker_model.specs.Resolve.{resolve}
use Rattle.broker_model.specs.Out.{act_at}
use Rattle.broker_core.specs.declared.state.State.{State}
use Rattle.broker_model.specs.Kept.{kept_by}
use Rattle.broker_audience.specs.Directed.{Directed}
use Rattle.broker_audience.specs.Lives.{told_all}
use Rattle.broker_audience.specs.Tells.{IsShort}
use Rattle.relay_objects.specs.Reached.{Reached}
use Rattle.broker_core.specs.Watched.{Watched, told_live}
use Rattle.broker_core.specs.Watched.Watched.{Entered}
use Rattle.broker_core.proofs.EntryWatched.{told_is_watched}
use Rattle.broker_core.proofs.ReadyEntryStands.{acts_few, short_told, stands_entered}
use Rattle.broker_core.proofs.state.State.enter.Goals as goal

more_by_one : (m n : ℕ) → m ≡ suc n → m ≡ n + 1
more_by_one m n e = omega arith

pub play-route-requires-clause-number : goal.play-route-requires-clause-number
play-route-requires-clause-number g c = acts_few c.args.entry c.args.self.now c.requires.ready

pub returns-clause-stands : goal.returns-clause-stands
returns-clause-stands g c =
    let s : State = c.args.self.now in
    let act : c.args.act.now ≡ act_at c.args.entry s.journal.entries = c.requires.act in
    let short = short_told c.args.entry s c.requires.ready in
    let here = c.requires.ready.relayed in
    let shorts = subst (λ (a : Act). AllByRecursion IsShort (told a (resolve s.journal.entries))) (sym act) short in
    stands_entered c.args.entry s _ c.requires.ready
    (record {
      entered = c.push-2.ensures.put ∙ ap (λ j. c.args.entry ∷ j.entries) c.play-route.ensures.journal;
      relayed = subst (λ (a : Act). relay.StandsFor c.play-route.new.self.relay (a ∷ resolve s.journal.entries)) act
          (c.play-route.ensures.relay (resolve s.journal.entries) here);
      live = c.play-route.ensures.live (resolve s.journal.entries) here shorts
          ∙ ap (λ (a : Act). map
          (told_all s.audience.directory.made (told a (resolve s.journal.entries))) s.audience.live.items) act;
      kept = c.let_go.ensures.left
          ∙ ap (λ (n : ℕ). kept_by c.args.act.now (n + 1) c.play-route.new.self.audience.directory.made)
          c.len-number.ensures.number
          ∙ ap (λ (d : Directed). kept_by c.args.act.now (length s.journal.entries + 1) d.made)
          (c.play-route.ensures.directory (resolve s.journal.entries) here shorts)
          ∙ ap (λ (a : Act). kept_by a (length s.journal.entries + 1) s.audience.directory.made) act;
      labels = c.play-route.ensures.labels;
      ended = c.play-route.ensures.ended;
      capacity = c.play-route.ensures.capacity;
      room = subst (λ j. j.room ≤ c.push-2.new.self.room + 1) c.play-route.ensures.journal c.push-2.ensures.room_left;
      stamp_room = subst (λ l. l.room ≤ c.push.new.self.room + 1) c.play-route.ensures.stamps c.push.ensures.room_left;
      stamped = more_by_one _ _ (ap length c.push.ensures.put)
          ∙ ap (λ l. length l.stamps + 1) c.play-route.ensures.stamps;
    })

pub returns-clause-watched : goal.returns-clause-watched
returns-clause-watched g c =
    let R = g.W.Watch.may_follow in
    let s : State = c.args.self.now in
    let e = c.args.entry in
    let log = resolve s.journal.entries in
    let made = s.audience.directory.made in
    let live = s.audience.live.items in
    let mid = c.entered.new.self in
    let after = c.play-route.new.watch in
    let act : c.args.act.now ≡ act_at e s.journal.entries = c.requires.act in
    let shorts = subst (λ (a : Act). AllByRecursion IsShort (told a log)) (sym act) (short_told e s c.requires.ready) in
    let number = c.len-number.ensures.number in
    let by_number : Reached R mid
    (told_live (length s.journal.entries + 1) made live (told (act_at e s.journal.entries) log)) after =
    subst (λ (m : ℕ). Reached R mid (told_live (m + 1) made live (told (act_at e s.journal.entries) log)) after) number
    (subst (λ (a : Act). Reached R mid (told_live (c.len-number.result + 1) made live (told a log)) after) act
    (c.play-route.ensures.watched log c.requires.ready.relayed shorts)) in (
      mid,
      subst (λ (m : ℕ). R c.args.watch.now (Entered (m + 1) e (act_at e s.journal.entries) log) mid) number
          (subst (λ (a : Act). R c.args.watch.now (Entered (c.len-number.result + 1) e a log) mid) act
          (c.entered.ensures log c.requires.ready.relayed)),
      subst (λ (events : List Watched). Reached R mid events after) (told_is_watched e s c.requires.ready) by_number,
    )

pub returns-clause-stamped : goal.returns-clause-stamped
returns-clause-stamped g c = search rules
