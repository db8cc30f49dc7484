use Rattle.std.proofs.Common.{◌≡◌, ◌++◌, ◌∙◌, ap, refl}
use Rattle.client_side.specs.Client.{Client, after_all}
use Rattle.client_side.specs.Events.{field_objects}
use Rattle.client_side.specs.FieldState.{State, after_event}
use Rattle.client_side.specs.Heard.{happened}
use Rattle.client_side.proofs.HeardInTurn.{none_heard, heard_of}
use Rattle.client_side.proofs.PieceRefused.{piece_refused}
use Rattle.client_side.proofs.LogGoesOn.{goes_on}
use Rattle.client_side.proofs.field_client.FieldClient.receive_heard.Goals as goal

pub returns-then-not-take_held-clause-log : goal.returns-then-not-take_held-clause-log
returns-then-not-take_held-clause-log g c log sent has =
    let was : c.hold.new.state.state ≡ c.args.self.now.state =
    c.hold.ensures.state ∙ ap (λ (k : Client State). k.state) c.self.view_is in
    let takes = c.if-not-take_held.ensures.wrong.takes in
    goes_on _ _ takes.events log sent (takes.state-is ∙ ap (after_all after_event takes.events) was) has

pub returns-clause-log : goal.returns-clause-log
returns-clause-log g c log sent has =
    let was : c.hold.new.state.state ≡ c.args.self.now.state =
    c.hold.ensures.state ∙ ap (λ (k : Client State). k.state) c.self.view_is in
    let takes = c.if-not-take_held.ensures.taken in
    goes_on _ _ takes.events log sent (takes.state-is ∙ ap (after_all after_event takes.events) was) has

pub returns-then-not-take_held-clause-bad : goal.returns-then-not-take_held-clause-bad
returns-then-not-take_held-clause-bad g c e good =
    let was : c.hold.new.state.state ≡ c.args.self.now.state =
    c.hold.ensures.state ∙ ap (λ (k : Client State). k.state) c.self.view_is in
    let held : c.hold.new.held.items ≡ c.args.self.now.held ++ c.args.piece.now =
    c.in_ok-hold.ensures.held ∙ ap (λ (k : Client State). k.held ++ c.args.piece.now) c.self.view_is in
    let told = c.if-not-take_held.ensures in
    piece_refused field_objects after_event _ _ _ _ _ good was held told.kept told.fits told.wrong refl

pub returns-then-not-take_held-clause-heard : goal.returns-then-not-take_held-clause-heard
returns-then-not-take_held-clause-heard g c =
    let was : c.hold.new.state.state ≡ c.args.self.now.state =
    c.hold.ensures.state ∙ ap (λ (k : Client State). k.state) c.self.view_is in
    let held : c.hold.new.held.items ≡ c.args.self.now.held ++ c.args.piece.now =
    c.in_ok-hold.ensures.held ∙ ap (λ (k : Client State). k.held ++ c.args.piece.now) c.self.view_is in
    let heard = c.if-not-take_held.ensures.heard in (
      heard.0,
      heard_of field_objects after_event happened g.H.FieldHearer.may_follow _ _ _ _ _ heard.0 _ _ was held heard.1,
    )

pub returns-clause-heard : goal.returns-clause-heard
returns-clause-heard g c =
    let was : c.hold.new.state.state ≡ c.args.self.now.state =
    c.hold.ensures.state ∙ ap (λ (k : Client State). k.state) c.self.view_is in
    let held : c.hold.new.held.items ≡ c.args.self.now.held ++ c.args.piece.now =
    c.in_ok-hold.ensures.held ∙ ap (λ (k : Client State). k.held ++ c.args.piece.now) c.self.view_is in
    let heard = c.if-not-take_held.ensures.heard in (
      heard.0,
      heard_of field_objects after_event happened g.H.FieldHearer.may_follow _ _ _ _ _ heard.0 _ _ was held heard.1,
    )

pub returns-then-self-clause-heard : goal.returns-then-self-clause-heard
returns-then-self-clause-heard g c = (
  c.args.self.now.held ++ c.args.piece.now,
  none_heard field_objects after_event happened g.H.FieldHearer.may_follow _ _ _ _ refl,
)

pub returns-in_err-hold-clause-heard : goal.returns-in_err-hold-clause-heard
returns-in_err-hold-clause-heard g c =
    let was : c.hold.new.state.state ≡ c.args.self.now.state =
    c.hold.ensures.state ∙ ap (λ (k : Client State). k.state) c.self.view_is in (
      c.args.self.now.held ++ c.args.piece.now,
      none_heard field_objects after_event happened g.H.FieldHearer.may_follow _ _ _ _ was,
    )
