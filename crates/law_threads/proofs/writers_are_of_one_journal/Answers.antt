use Rattle.law_threads.proofs.OneJournal.{writers_of_journal, reports_of_journal, servers_write}
use Rattle.law_threads.proofs.writers_are_of_one_journal.Goals as goal

pub returns-clause-law : goal.returns-clause-law
returns-clause-law c = writers_of_journal

pub returns-clause-reports : goal.returns-clause-reports
returns-clause-reports c = reports_of_journal

pub returns-clause-server : goal.returns-clause-server
returns-clause-server c = servers_write
