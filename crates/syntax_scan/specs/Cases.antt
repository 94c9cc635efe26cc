-- Small parts, cut at awkward places, by computation. Assumes nothing.
use Rattle.std.specs.Prelude.{◌≡◌, refl, [], ◌∷◌, ◌++◌, Ok, Err}
use Rattle.lists.specs.Text.{bytes}
use Rattle.syntax.specs.declared.Kind.TheVariants.{Nothing, Group, Rows}
use Rattle.syntax.specs.declared.State.TheVariants.{Open, Inside, FirstEsc, InsideEsc, Null, Ret}
use Rattle.syntax.specs.Machine.{field_step, escape_step, first_escape_step, null_step, return_step, start_step, mark_step, step}
use Rattle.syntax_scan.specs.Scanned.{scanned}

abbrev Cuts : Type 0
Cuts =
    -- no bytes lead nowhere else
    (scanned (Ret Group) [] 0 ≡ Ok (Ret Group))
    -- cut inside a field: its text goes on, and `\0` may not stand behind it
    × (scanned (Open Nothing) (bytes "\\Gab") 0 ≡ Ok (Inside Group))
    × (scanned (Inside Group) (bytes "cd|e") 0 ≡ Ok (Inside Group))
    × (scanned (Inside Group) (bytes "\\0|") 0 ≡ Err 1)
    × (scanned (Inside Group) (bytes "|\\0") 0 ≡ Ok (Null Group))
    -- cut inside an escape, at a field's start and behind it
    × (scanned (FirstEsc Group) (bytes "0") 0 ≡ Ok (Null Group))
    × (scanned (InsideEsc Group) (bytes "0") 0 ≡ Err 0)
    -- between CR and LF
    × (scanned (Open Rows) (bytes "a" ++ 13 ∷ []) 0 ≡ Ok (Ret Rows))
    × (scanned (Ret Rows) (10 ∷ bytes "a") 0 ≡ Ok (Inside Rows))
    × (scanned (Ret Rows) (bytes "a") 0 ≡ Err 0)
    -- a low byte behind a run of text
    × (scanned (Inside Rows) (bytes "a text of seventeen bytes and more" ++ 31 ∷ []) 0 ≡ Err 34)

pub cuts : Cuts
unfolding field_step escape_step first_escape_step null_step return_step start_step mark_step step scanned
cuts = (refl, refl, refl, refl, refl, refl, refl, refl, refl, refl, refl)
