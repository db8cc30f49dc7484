-- What the joining and starting of links makes of the root and of the spawner
use Rattle.std.specs.Prelude.{◌≡◌, ◌≢◌, ◌⊎◌, ℕ, ◌+◌, ◌-◌, ◌≤◌, Bool, true, false, if◌then◌else◌, ◌<◌, ◌^◌, List, [], ◌∷◌, ◌++◌, length, map, take, drop, Result, Err, OnOk, IfErr, All}
use Rattle.broker_steps.specs.declared.limits.Limits.{Limits}
use Rattle.relay_model.specs.declared.role.Role.{Role}
use Rattle.std.specs.Prelude.{Option, Some}
use Rattle.turn_lock.specs.Pairs.{own, HasSeen, IsIn}
use Rattle.hub_lock.specs.Passes.{HubId, PassSeat, PeerPass, IsOf}
use Rattle.wio_core.specs.Io.{Rose}
use Rattle.serve_net.specs.declared.door.Door.{Door}
use Rattle.serve_words.specs.Words.{doors_of}
use Rattle.serve_jobs.specs.Tags.{Tag, Report}
use Rattle.serve_jobs.specs.Tags.Part.{reader, writer}
use Rattle.serve_run.specs.declared.stop.Stop.{Stop}
use Rattle.serve_run.specs.declared.stop.Stop.TheVariants as stops
use Rattle.serve_run.specs.Unserved.{AreUnserved, pushed}
use Rattle.serve_run.specs.Refused.{WasRefused, JoinedUnless}
use Rattle.serve_run.specs.LinkJobs.{LinkedJob, IsOnHub, job, job_tagged, jobs_by, joins_by, passes_by, jobs_of, joins_of, passes_of}

-- the root of the hub's passes
pub record IsRootOf (hub : HubId) (root : PassSeat) : Type 0 where
  pub of : IsOf hub root
  pub zero : root.number ≡ 0

-- the root of the hub's passes, by which one more peer can join
pub record CanJoin (hub : HubId) (root : PassSeat) : Type 0 where
  pub root_is : IsRootOf hub root
  pub room : root.next ≤ 2 ^ 63
  pub few : length (own 0 root.seen) < 64

-- the pass with that number, which was out, is back: no pass and no step of the root was made, nor
-- one of a pass that was back before
pub record IsGivenBack (hub : HubId) (root root' : PassSeat) (number : ℕ) : Type 0 where
  pub root_is : IsRootOf hub root'
  pub next : root'.next ≡ root.next
  pub mine : HasSeen root'.seen 0 root.seen
  pub out : root'.out ≡ root.out - 1
  pub taken : root'.taken ≡ number ∷ root.taken
  pub settled : (n : ℕ) → IsIn n root.taken → HasSeen root'.seen n root.seen

-- a peer joined by the root, which has seen its join, and two passes more are out, with the next
-- two numbers
pub record IsJoinedBy (hub : HubId) (root root' : PassSeat) (role : Role)
    (reader writer : PeerPass) : Type 0 where
  pub root_is : IsRootOf hub root'
  pub next : root'.next ≡ root.next + 2
  pub out : root'.out ≡ root.out + 2
  pub joins : own 0 root'.seen ≡ own 0 root.seen ++ joins_by root.next (Some role)
  pub reads : IsOf hub reader.seat
  pub writes : IsOf hub writer.seat
  pub taken : root'.taken ≡ root.taken
  pub reader_number : reader.seat.number ≡ root.next
  pub writer_number : writer.seat.number ≡ root.next + 1

-- nobody joined, and no pass was made
pub record IsNotJoined (hub : HubId) (root root' : PassSeat) : Type 0 where
  pub root_is : IsRootOf hub root'
  pub next : root'.next ≡ root.next
  pub out : root'.out ≡ root.out
  pub joins : own 0 root'.seen ≡ own 0 root.seen
  pub taken : root'.taken ≡ root.taken

-- a join was refused
abbrev pub IsRefusal : Stop → Type 0
IsRefusal stops.NoMemory = Unit {0}
IsRefusal stops.JournalFull = Unit {0}
IsRefusal stops.NetFault = ⊥
IsRefusal stops.NoThread = ⊥

-- a job that wasn't started
abbrev pub MayLack : Stop → Type 0
MayLack stops.NoMemory = Unit {0}
MayLack stops.NoThread = Unit {0}
MayLack stops.NetFault = ⊥
MayLack stops.JournalFull = ⊥

-- what starts make of a spawner: no result was taken, and none had come at the last of them but what
-- had come before the first; want of a thread is a refusal that was counted
pub record Starts {W : Type 0} (reports : W → List Report) (before_start refusals : W → ℕ)
    (old new : W) (r : Result (Unit {0}) Stop) : Type 0 where
  pub last : (before_start new ≡ before_start old) ⊎ (before_start new ≡ length (reports old))
  pub none_came : reports new ≡ reports old
  pub never_falls : refusals old ≤ refusals new
  pub threads : r ≡ Err stops.NoThread → Rose (refusals old) (refusals new)
  pub no_refusal : r ≢ Err stops.NoThread → refusals new ≡ refusals old

-- these jobs were started on the hub
pub record AreStarted (hub : HubId) (started started' : List Tag)
    (jobs : List LinkedJob) : Type 0 where
  pub tags : List Tag
  pub are : started' ≡ started ++ tags
  pub jobs_are : map job_tagged tags ≡ jobs
  pub on_hub : All (IsOnHub hub) tags

-- the passes of these jobs, which weren't started, are back and no others, and made what such
-- passes do
pub record AreGivenBack (limits : Limits) (root root' : PassSeat)
    (jobs : List LinkedJob) : Type 0 where
  pub taken : root'.taken ≡ pushed jobs root.taken
  pub made : AreUnserved limits root'.seen jobs

-- the first of a peer's two jobs were started, whose passes have these numbers and which serve this
-- link; those that weren't are back
pub record BothStarted (hub : HubId) (root root' : PassSeat) (started started' : List Tag)
    (reads writes link : ℕ)
    (accepted : Result (Unit {0}) Stop) : Type 0 where
  pub root_is : IsRootOf hub root'
  pub next : root'.next ≡ root.next
  pub joins : own 0 root'.seen ≡ own 0 root.seen
  pub count : ℕ
  pub jobs : AreStarted hub started started'
      (take count (job reads link reader ∷ job writes link writer ∷ []))
  pub others : AreGivenBack hub.limits root root'
      (drop count (job reads link reader ∷ job writes link writer ∷ []))
  pub balance : root'.out + length started + 2 ≡ root.out + length started'
  pub all_started : OnOk accepted (count ≡ 2)
  pub why : IfErr accepted MayLack

-- The link of that number and role was joined, unless that was refused, and the first of its jobs
-- were started; the passes of the others are back. As many passes more are out as jobs were
-- started.
pub record LinkStarted (hub : HubId) (root root' : PassSeat) (started started' : List Tag)
    (link : ℕ) (role : Option Role)
    (accepted : Result (Unit {0}) Stop) : Type 0 where
  pub root_is : IsRootOf hub root'
  pub is_joined : Bool
  pub next : root'.next ≡ root.next + (if is_joined then passes_by role else 0)
  pub joins : own 0 root'.seen
      ≡ own 0 root.seen ++ (if is_joined then joins_by root.next role else [])
  pub count : ℕ
  pub jobs : AreStarted hub started started' (take count (jobs_by root.next link role))
  pub none_else : is_joined ≡ false → count ≡ 0
  pub others : is_joined ≡ true →
      AreGivenBack hub.limits root root' (drop count (jobs_by root.next link role))
  pub balance : root'.out + length started ≡ root.out + length started'
  pub all_joined : OnOk accepted (is_joined ≡ true)
  pub all_started : OnOk accepted (count ≡ passes_by role)
  pub same : is_joined ≡ false → root'.taken ≡ root.taken
  pub refused : is_joined ≡ false → WasRefused hub.limits root'.seen role accepted
  pub lacks : is_joined ≡ true → IfErr accepted MayLack

-- the links of the first so many letters were joined and started, with all their jobs; the first of
-- them has this number
pub record AllStarted (hub : HubId) (root root' : PassSeat) (started started' : List Tag)
    (letters : List ℕ) (first count : ℕ)
    : Type 0 where
  pub root_is : IsRootOf hub root'
  pub next : root'.next ≡ root.next + passes_of (take count letters)
  pub joins : own 0 root'.seen ≡ own 0 root.seen ++ joins_of root.next (take count letters)
  pub jobs : AreStarted hub started started' (jobs_of root.next first (take count letters))
  pub taken : root'.taken ≡ root.taken
  pub balance : root'.out + length started ≡ root.out + length started'

-- The links of the first letters, from this number on, were joined and started: all that were
-- accepted, or all but the last, whose join was refused. Where memory or a thread lacked and no join
-- was refused, the last of them may lack some of its jobs, whose passes are back.
pub record LinksStarted (hub : HubId) (root root' : PassSeat) (started started' : List Tag)
    (letters : List ℕ)
    (first accepted : ℕ) (result : Result (Unit {0}) Stop) : Type 0 where
  pub root_is : IsRootOf hub root'
  pub joined : ℕ
  pub none_more : joined ≤ accepted
  pub near : accepted ≤ joined + 1
  pub next : root'.next ≡ root.next + passes_of (take joined letters)
  pub joins : own 0 root'.seen ≡ own 0 root.seen ++ joins_of root.next (take joined letters)
  pub count : ℕ
  pub jobs : AreStarted hub started started'
      (take count (jobs_of root.next first (take joined letters)))
  pub before_last : passes_of (take (joined - 1) letters) ≤ count
  pub others : AreGivenBack hub.limits root root'
      (drop count (jobs_of root.next first (take joined letters)))
  pub balance : root'.out + length started ≡ root.out + length started'
  pub all_joined : OnOk result (joined ≡ accepted)
  pub all_started : OnOk result (count ≡ passes_of (take joined letters))
  pub refused : JoinedUnless hub.limits root'.seen letters joined accepted result
  pub lacks : (count ≡ passes_of (take joined letters))
      ⊎ (IfErr result MayLack × (joined ≡ accepted))

-- links came through the doors of the first so many letters, of all where nothing stopped it, and
-- were started; the first of them has the number behind those that came before
pub record AreAccepted (hub : HubId) (root root' : PassSeat) (started started' : List Tag)
    (links links' : List Door) (letters : List ℕ) (result : Result (Unit {0}) Stop) : Type 0 where
  pub count : ℕ
  pub within : count ≤ length letters
  pub doors : links' ≡ links ++ take count (doors_of letters)
  pub started_are : LinksStarted hub root root' started started' letters (length links + 1) count
      result
  pub all : OnOk result (count ≡ length letters)
