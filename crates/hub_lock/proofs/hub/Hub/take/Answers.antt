use Rattle.std.proofs.Common.{◌≡◌, ◌++◌, ◌∙◌, ap₂, sym, subst, List, ℕ, length, drop}
use Rattle.hub_lock.specs.Passes.{PeerPass}
use Rattle.hub_lock.specs.Calls.{IsTake}
use Rattle.hub_lock.proofs.TakesCopied.{copied_over, take-copied}
use Rattle.hub_lock.proofs.hub.Hub.take.Goals as goal

pub returns-clause-legal : goal.returns-clause-legal
returns-clause-legal g c =
    let limits = c.args.self.now.limits in
    let buf : List ℕ = c.args.buf.now in
    let places : List ℕ = c.args.tokens.now in
    let t = c.take_most-took.result.1 in
    let r = c.take_most-took.result.0 in
    let bytes : c.copy_from_slice.new.self ≡ t.bytes = c.copy_from_slice.ensures.after ∙ c.bytes-bytes.ensures in
    let came : c.copy_from_slice-2.new.self ≡ t.tokens = c.copy_from_slice-2.ensures.after ∙ c.tokens-came.ensures in
    let buf' : List ℕ = c.copy_from_slice.new.self ++ drop (length c.bytes-bytes.result.now) buf in
    let places' : List ℕ = c.copy_from_slice-2.new.self ++ drop (length c.tokens-came.result.now) places in
    let same : buf' ≡ copied_over t.bytes buf =
    ap₂ (λ (xs : List ℕ) (ys : List ℕ). xs ++ drop (length ys) buf) bytes c.bytes-bytes.ensures in
    let same' : places' ≡ copied_over t.tokens places =
    ap₂ (λ (xs : List ℕ) (ys : List ℕ). xs ++ drop (length ys) places) came c.tokens-came.ensures in
    let was : PeerPass = record { seat = c.pass.inside.member; peer = c.pass.inside.peer } in
    let now : PeerPass = record { seat = c.pass-2.inside.member; peer = c.pass-2.inside.peer } in
    let new : PeerPass = c.take_most-took.new.pass in
    subst (λ (p : PeerPass). IsTake limits p now buf places buf' places' r) c.pass.view_is
    (subst (λ (p : PeerPass). IsTake limits was p buf places buf' places' r) (sym c.pass-2.view_is)
    (subst (λ b. IsTake limits was new buf places b places' r) (sym same)
    (subst (λ b. IsTake limits was new buf places (copied_over t.bytes buf) b r) (sym same')
    (take-copied limits was new buf places t r c.take_most-took.ensures.legal))))
