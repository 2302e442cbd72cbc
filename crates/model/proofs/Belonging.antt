-- What a host knows that follows a sheet. Assumes nothing.
use Rattle.std.proofs.Common.{◌≡◌, ℕ, Bool, true, false, cond, None, refl, sym, ◌∙◌, ap, ap₂, arith}
use mathlib.Core.Path.{fun_ext}
use Rattle.std.proofs.lemmas.Bool.Decides.{nat_tests}
use Rattle.host.specs.Keys.{RowKey, key_of, number_of, is_of_sheet}
use Rattle.host.specs.View.{View, Sound}
use Rattle.host.specs.Known.{known_row, known_by}
use Rattle.model.specs.Sheet.{Sheet}
use Rattle.model.specs.Sheets.{HostFollows, row_known, with_rows_known}
use Rattle.model.specs.Histories.{LawfulHistory, nothing, one_more}
use Rattle.model.specs.Chart.{Chart}
use Rattle.model.specs.Run.{World, History}

-- a key of the sheet is that of the row with its number
same_key : (serial : ℕ) (key : RowKey) → is_of_sheet serial key ≡ true → key_of (number_of key) ≡ key
same_key serial key is = refl

-- no host knows a row under a key of no sheet
unknown_outside : (v : View) → Sound v → (serial : ℕ) (key : RowKey) → is_of_sheet serial key ≡ false
    → known_row (v.state key) (v.entry key) ≡ None
unknown_outside v s serial key h = let o = s.outside key h in let e = s.entries key in grind (arith, nat_tests)

-- it knows the sheet's rows, and beside them what it knew before
pub follows_knows : (s : Sheet) (v before : View) → Sound v → Sound before → HostFollows s v
    → known_by v ≡ with_rows_known s (known_by before)
follows_knows s v before sound was h = fun_ext λ key. go key (is_of_sheet s.serial key) refl
  where
    go : (key : RowKey) (b : Bool) → is_of_sheet s.serial key ≡ b
        → known_row (v.state key) (v.entry key)
        ≡ cond b (row_known s (number_of key)) (known_row (before.state key) (before.entry key))
    go key true e =
        let n = number_of key in
        ap (λ k. known_row (v.state k) (v.entry k)) (sym (same_key s.serial key e)) ∙ ap₂ known_row (h.states n) (h.entries n)
    go key false e = unknown_outside v sound s.serial key e ∙ sym (unknown_outside before was s.serial key e)

-- after every lawful history the host follows the sheet
pub lawful_follows : (c : Chart) (first : World) {h : History} {w : World} → LawfulHistory c first h w → HostFollows w.sheet w.host
lawful_follows c first (nothing f) = f
lawful_follows c first (one_more q e law) = law.host_follows
