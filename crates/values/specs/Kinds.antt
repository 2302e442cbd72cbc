-- Kinds read from their numbers. Assumes nothing.
use Rattle.std.specs.Prelude.{ℕ, ◌≡◌, ◌<◌, Result, MatchResult}
use Rattle.values.specs.declared.Kind.{Kind}
use Rattle.values.specs.declared.UnknownKind.{UnknownKind}
use Rattle.values.specs.Numbers.{kind_number}

-- a number read as a kind: the kind that has it, or a refusal of a number above the last of them
abbrev pub Decodes : ℕ → Result Kind UnknownKind → Type 0
Decodes number r = MatchResult r (λ kind. kind_number kind ≡ number) (λ e. (e.0 ≡ number) × (1 < number))
