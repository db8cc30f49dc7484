-- What a link tells that just came in
use Rattle.std.specs.Prelude.{◌≡◌, ℕ, List, [], Option, IfSome}

-- nothing so far, where it tells it
abbrev pub IsNothing : Option (List ℕ) → Type 0
IsNothing told = IfSome told (λ bytes. bytes ≡ [])

-- a source that gave nothing and didn't fail
pub record IsNewSource (given : Option (List ℕ)) (faults : ℕ) : Type 0 where
  pub gave : IsNothing given
  pub whole : faults ≡ 0

-- a sink that holds nothing and didn't fail
pub record IsNewSink (held : Option (List ℕ)) (faults : ℕ) : Type 0 where
  pub holds : IsNothing held
  pub whole : faults ≡ 0
