-- A job may move to another thread
use denote.Param.Send.{IsSend, AllSend, sendable}
use Rattle.std.proofs.Common.{[], ◌∷◌}
use denote.RattleType.{RattleType}
use Rattle.std.proofs.Crossing.{crosses}
use Rattle.compose_method.specs.declared.typist.Typist.{Ghosts}
use Rattle.compose_method.specs.contracts.method.Method as Method
use Rattle.dict_method.specs.contracts.method.DictMethod as DictMethod
use Rattle.client_side.specs.contracts.method_client.MethodClient as MethodClient
use Rattle.trial_client_logs.specs.contracts.method_log.MethodLog as MethodLog
use Rattle.trial_run.specs.contracts.typist.TrialTypist as TrialTypist
use Rattle.trial_jobs.specs.contracts.batch_list.BatchList as BatchList
use Rattle.hub_lock.proofs.HubCrosses.{reader_send, writer_send, shell_send}
use Rattle.trial_typing.specs.contracts.field_job.FieldJob as FieldJob
use Rattle.trial_typing.specs.contracts.shell_job.ShellJob as ShellJob
use Rattle.trial_jobs.specs.contracts.method_job.MethodJob as MethodJob
use Rattle.trial_jobs.specs.contracts.job.TrialJob as TrialJob
use Rattle.trial_threads.specs.contracts.running.Running as Running

field_send : IsSend FieldJob.the_field.row
field_send = search (sendable, crosses, reader_send, writer_send) depth 60 fits 100000

-- the method's client, by what types

compose_send : IsSend Method.the_field.row
compose_send = search (sendable, crosses) depth 60 fits 100000

dict_send : IsSend DictMethod.the_field.row
dict_send = search (sendable, crosses) depth 60 fits 100000

typist_send : IsSend TrialTypist.the_field.row
typist_send = search (sendable, crosses, compose_send, dict_send) depth 60 fits 100000

client_send : (T : RattleType) (i : Ghosts T.Denot) → IsSend T → IsSend (MethodClient.the_field T i).row
client_send T i s = search (sendable, crosses) depth 60 fits 100000

log_send : IsSend MethodLog.the_field.row
log_send = search (sendable, crosses) depth 60 fits 100000

batches_send : IsSend BatchList.the_field.row
batches_send = search (sendable, crosses) depth 60 fits 100000

method_send : IsSend MethodJob.the_field.row
method_send =
    search (sendable, crosses, reader_send, writer_send, typist_send, client_send, log_send, batches_send) depth 60
    fits 100000

shell_job_send : IsSend ShellJob.the_field.row
shell_job_send = search (sendable, crosses, shell_send) depth 60 fits 100000

job_send : IsSend TrialJob.the_field.row
job_send = search (sendable, crosses, field_send, method_send, shell_job_send) depth 40 fits 100000

pub running_send : IsSend Running.the_field.row
running_send = search (sendable, crosses, job_send) depth 40 fits 100000

-- five captures of a closure, each of which may move
pub all_five : (A B C D E : RattleType) → IsSend A → IsSend B → IsSend C → IsSend D → IsSend E →
    AllSend (A ∷ B ∷ C ∷ D ∷ E ∷ [])
all_five A B C D E a b c d e = (a, (b, (c, (d, (e, tt)))))
