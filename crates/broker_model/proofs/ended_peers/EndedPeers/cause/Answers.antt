use Rattle.std.proofs.Common.{◌≡◌, ◌<◌, ◌-◌, length, rules, ap, refl, ◌∙◌, option_map, arith}
use Rattle.std.specs.Vec.{vec_len}
use Rattle.std.proofs.lemmas.Option.{slice_get_read}
use Rattle.broker_model.specs.Ends.{Ends, ended_with}
use Rattle.broker_model.proofs.PeersLeft.{within, cause_read}
use Rattle.broker_model.proofs.ended_peers.EndedPeers.cause.Goals as goal

pub index-requires : goal.index-requires
index-requires c =
    let many : vec_len c.self.inside.causes ≡ length c.self.inside.causes.items = search rules in
    let place : c.args.number - 1 < length c.self.inside.causes.items =
    within c.self.inside.causes.items c.self.inside.left.items c.args.number c.args.self.now.items
    (ap (λ (e : Ends). e.items) c.self.view_is) c.requires.number c.requires.joined in
    omega arith

pub returns : goal.returns
returns c =
    let place : c.args.number - 1 < length c.self.inside.causes.items =
    within c.self.inside.causes.items c.self.inside.left.items c.args.number c.args.self.now.items
    (ap (λ (e : Ends). e.items) c.self.view_is) c.requires.number c.requires.joined in
    cause_read c.self.inside.causes.items c.self.inside.left.items c.args.number c.index.result.now c.requires.number
    (slice_get_read c.self.inside.causes.items (length c.self.inside.causes.items) (c.args.number - 1)
    c.index.result.now refl place c.index.ensures)
    ∙ ap (λ (e : Ends). option_map (λ e. e.cause) (ended_with c.args.number e.items)) c.self.view_is
