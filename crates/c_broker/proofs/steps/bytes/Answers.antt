use Rattle.std.proofs.Common.{ℕ, ◌++◌, Option, Ok, subst}
use Rattle.wl_wire.specs.Streams.{begun}
use Rattle.c_broker.specs.Steps.{GoesOn, all_done, not_done}
use Rattle.c_broker.proofs.WatchedOn.{heard_none, heard_both}
use Rattle.c_broker.proofs.BytesOnWay.{way_begins, way_goes, way_plays, way_leaves}
use Rattle.c_broker.proofs.steps.bytes.Goals as goal

pub messages-init : goal.messages-init
messages-init c = record {
  way = way_begins c.args.peer c.args.stamp (begun c.args.cutter.now ++ c.args.piece.now) c.args.shared.now;
  hears = heard_none c.args.shared.now c.args.ears.now;
}

pub messages-preserved : goal.messages-preserved
messages-preserved c =
    let took = subst (λ (o : Option ℕ). GoesOn c.args.peer c.args.stamp
    (begun c.messages.cutter ++ c.messages.rest.now) c.messages.rest.now c.messages.shared (Ok o)
    c.first.new.shared (begun c.first.new.cutter)) c.in-Ok-Some.field-0-is c.in-Ok-Some.ensures.goes in
    record {
      way = way_goes c.args.peer c.args.stamp (begun c.args.cutter.now ++ c.args.piece.now)
          (begun c.messages.cutter ++ c.messages.rest.now) c.messages.rest.now c.in-Ok-Some.used c.args.shared.now
          c.messages.shared c.first.new.shared (begun c.first.new.cutter) c.split_at.result.1.now
          c.messages.invariant.way took c.split_at.ensures.back;
      hears = heard_both c.args.shared.now c.messages.shared c.first.new.shared c.args.ears.now c.messages.ears
          c.first.new.ears c.messages.invariant.hears c.first.ensures.hears;
    }

pub returns-in-Ok-None-clause-plays : goal.returns-in-Ok-None-clause-plays
returns-in-Ok-None-clause-plays c =
    let gave = subst (λ (o : Option ℕ). GoesOn c.args.peer c.args.stamp
    (begun c.messages.cutter ++ c.messages.rest.now) c.messages.rest.now c.messages.shared (Ok o)
    c.first.new.shared (begun c.first.new.cutter)) c.in-Ok-None.field-0-is c.in-Ok-None.ensures.goes in
    way_plays c.args.peer c.args.stamp (begun c.args.cutter.now ++ c.args.piece.now)
    (begun c.messages.cutter ++ c.messages.rest.now) c.args.shared.now c.messages.shared c.first.new.shared all_done
    c.messages.invariant.way gave.0

pub returns-in-Ok-None-clause-reads : goal.returns-in-Ok-None-clause-reads
returns-in-Ok-None-clause-reads c =
    let gave = subst (λ (o : Option ℕ). GoesOn c.args.peer c.args.stamp
    (begun c.messages.cutter ++ c.messages.rest.now) c.messages.rest.now c.messages.shared (Ok o)
    c.first.new.shared (begun c.first.new.cutter)) c.in-Ok-None.field-0-is c.in-Ok-None.ensures.goes in
    way_leaves c.args.peer c.args.stamp (begun c.args.cutter.now ++ c.args.piece.now)
    (begun c.messages.cutter ++ c.messages.rest.now) (begun c.first.new.cutter) c.args.shared.now c.messages.shared
    c.messages.invariant.way gave.1

pub returns-in-Ok-None-clause-hears : goal.returns-in-Ok-None-clause-hears
returns-in-Ok-None-clause-hears c =
    heard_both c.args.shared.now c.messages.shared c.first.new.shared c.args.ears.now c.messages.ears c.first.new.ears
    c.messages.invariant.hears c.first.ensures.hears

pub returns-in-Err-clause-plays : goal.returns-in-Err-clause-plays
returns-in-Err-clause-plays c =
    way_plays c.args.peer c.args.stamp (begun c.args.cutter.now ++ c.args.piece.now)
    (begun c.messages.cutter ++ c.messages.rest.now) c.args.shared.now c.messages.shared c.first.new.shared
    (not_done c.in-Err.why) c.messages.invariant.way c.in-Err.ensures.goes

pub returns-in-Err-clause-hears : goal.returns-in-Err-clause-hears
returns-in-Err-clause-hears c =
    heard_both c.args.shared.now c.messages.shared c.first.new.shared c.args.ears.now c.messages.ears c.first.new.ears
    c.messages.invariant.hears c.first.ensures.hears
