use Rattle.std.proofs.Common.{rules, ◌∙◌, ap}
use Rattle.std.specs.FinMap as map
use Rattle.std.proofs.lemmas.Map.Made.{filter_same_pairs}
use Rattle.virt_keys.specs.Boards.{Boards}
use Rattle.virt_keys.specs.PeerBoards.{unless_of}
use Rattle.virt_keys.proofs.BoardHistories.{gone_after}
use Rattle.virt_keys.proofs.PeerBoardsLeft.{is_other, peer_left}
use Rattle.virt_keys.proofs.boards.VKeys.drop_peer.Goals as goal

pub returns-clause-left : goal.returns-clause-left
returns-clause-left c board =
    peer_left c.self.inside.boards c.retain.new.self c.args.peer board c.retain.ensures.was_ordered
    (filter_same_pairs _ (λ e. is_other c.args.peer e.1) _ (λ k v b w f t. search rules) _ _ c.retain.ensures.filtered)
    ∙ ap (λ (m : Boards). unless_of c.args.peer (map.get m board)) c.self.view_is

pub returns-clause-history : goal.returns-clause-history
returns-clause-history c calls s = gone_after calls c.args.self.now _ c.args.peer s (returns-clause-left c)
