use Rattle.broker_model.proofs.laws.store_law.Goals as goal
use Rattle.broker_model.proofs.TokensAreSpaced.{spaced_group}
use Rattle.broker_model.proofs.StoresAreOut.{cells_are_put, cells_are_taken}
use Rattle.broker_model.proofs.TakenCells.{bytes_are_out, tokens_are_out}

pub returns-clause-spaced : goal.returns-clause-spaced
returns-clause-spaced c = spaced_group

pub returns-clause-put : goal.returns-clause-put
returns-clause-put c = cells_are_put

pub returns-clause-taken : goal.returns-clause-taken
returns-clause-taken c = cells_are_taken

pub returns-clause-bytes : goal.returns-clause-bytes
returns-clause-bytes c = bytes_are_out

pub returns-clause-tokens : goal.returns-clause-tokens
returns-clause-tokens c = tokens_are_out
