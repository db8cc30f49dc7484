-- A list may cross threads as its items may, and a past always may.
use denote.RattleType.{RattleType}
use denote.Param.Send.{IsSend, IsSync, sendable}
use Rattle.std.proofs.Crossing.{crosses}
use Rattle.out_store.specs.contracts.past.Past as Past
use Rattle.out_store.specs.contracts.long_list.LongList as LongList

pub past_send : (T : RattleType) → IsSend (Past.the_field T).row
past_send T = search (sendable, crosses) depth 16

pub past_sync : (T : RattleType) → IsSync (Past.the_field T).row
past_sync T = search (sendable, crosses) depth 16

pub list_send : (T : RattleType) → IsSend T → IsSend (LongList.the_field T).row
list_send T s = search (sendable, crosses) depth 16

pub list_sync : (T : RattleType) → IsSync T → IsSync (LongList.the_field T).row
list_sync T s = search (sendable, crosses) depth 16
