use Rattle.std.proofs.Common.{◌-◌, ◌++◌, List, length, min, take, drop, set, Option, Some, ap, sym, ◌∙◌}
use Rattle.out_store.specs.Queue.{Queue, bytes_of, tokens_of}
use Rattle.broker_model.specs.Ends.{Ended, Ends, cells_left, after_take, ended_from, ended_with}
use Rattle.broker_model.proofs.PeersLeft.{IsOver, who_ended, one_taken}
use Rattle.broker_model.proofs.ended_peers.EndedPeers.take.Goals as goal

pub returns-clause-count : goal.returns-clause-count
returns-clause-count c =
    let it : IsOver c.self.inside.causes.items c.self.inside.left.items c.args.number c.args.self.now.items =
    who_ended c.self.inside.causes.items c.self.inside.left.items c.args.number c.args.self.now.items
    (ap (λ (e : Ends). e.items) c.self.view_is) c.requires.number c.requires.ended in
    c.take_from.ensures.count
    ∙ sym (ap (λ (e : Option Ended). min (length c.args.buf.now) (length (cells_left e))) it.is)

pub returns-clause-bytes : goal.returns-clause-bytes
returns-clause-bytes c =
    let it : IsOver c.self.inside.causes.items c.self.inside.left.items c.args.number c.args.self.now.items =
    who_ended c.self.inside.causes.items c.self.inside.left.items c.args.number c.args.self.now.items
    (ap (λ (e : Ends). e.items) c.self.view_is) c.requires.number c.requires.ended in
    let n = c.take_from.result.0 in
    c.take_from.ensures.bytes
    ∙ sym (ap (λ (e : Option Ended). bytes_of (take n (cells_left e)) ++ drop n c.args.buf.now) it.is)

pub returns-clause-token_count : goal.returns-clause-token_count
returns-clause-token_count c =
    let it : IsOver c.self.inside.causes.items c.self.inside.left.items c.args.number c.args.self.now.items =
    who_ended c.self.inside.causes.items c.self.inside.left.items c.args.number c.args.self.now.items
    (ap (λ (e : Ends). e.items) c.self.view_is) c.requires.number c.requires.ended in
    let n = c.take_from.result.0 in
    c.take_from.ensures.token_count
    ∙ sym (ap (λ (e : Option Ended). length (tokens_of (take n (cells_left e)))) it.is)

pub returns-clause-tokens : goal.returns-clause-tokens
returns-clause-tokens c =
    let it : IsOver c.self.inside.causes.items c.self.inside.left.items c.args.number c.args.self.now.items =
    who_ended c.self.inside.causes.items c.self.inside.left.items c.args.number c.args.self.now.items
    (ap (λ (e : Ends). e.items) c.self.view_is) c.requires.number c.requires.ended in
    let n = c.take_from.result.0 in
    c.take_from.ensures.tokens
    ∙ sym (ap (λ (e : Option Ended). tokens_of (take n (cells_left e)) ++ drop c.take_from.result.1 c.args.tokens.now)
    it.is)

pub returns-clause-left : goal.returns-clause-left
returns-clause-left c =
    let it : IsOver c.self.inside.causes.items c.self.inside.left.items c.args.number c.args.self.now.items =
    who_ended c.self.inside.causes.items c.self.inside.left.items c.args.number c.args.self.now.items
    (ap (λ (e : Ends). e.items) c.self.view_is) c.requires.number c.requires.ended in
    let n = c.take_from.result.0 in
    let q = c.args.number in
    let causes = c.self.inside.causes.items in
    let items : List (Option Ended) = ended_from 1 causes c.self.inside.left.items in
    one_taken causes c.self.inside.left.items c.take_from.new.left.items q it.cause c.requires.number it.at
    c.take_from.ensures.others
    ∙ ap (λ (store : Option Queue). set items (q - 1) (Some (record { cause = it.cause; store = store })))
    c.take_from.ensures.rest
    ∙ sym (ap (λ (e : Option Ended). set items (q - 1) (after_take n e)) it.is)
    ∙ ap (λ (e : Ends). set e.items (q - 1) (after_take n (ended_with q c.args.self.now.items))) c.self.view_is
