-- The keys that are told, taken from all files. Assumes nothing.
use Rattle.std.specs.Prelude.{◌≡◌, ℕ, zero, suc, ◌+◌, ◌<◌, ◌≤◌, Bool, true, false, cond, ◌||◌, List, [], ◌∷◌, ◌++◌, map, length, get_or, take, drop, set, Some, None, Option, nat_lt, slice_index_or, slice_set, refl}
use Rattle.std.proofs.Common.{sym, ap, ◌∙◌}
use Rattle.std.proofs.Math.Path.{fun_ext}
use Rattle.std.specs.List.{slice_get}
use Rattle.std.specs.Option.{option_map}
use Rattle.std.proofs.lemmas.List.{append-nil, drop_all, get_or-map, map-set, take_all}
use Rattle.std.proofs.lemmas.List.Edits.{map_over_more}
use Rattle.keys.specs.KeyName.{KeyName}
use Rattle.disk.specs.Files.{FileState, kept, with_key}
use Rattle.disk.specs.Rules.{unnamed, unbound}
use Rattle.slots.specs.Told.{forgot}
use Rattle.flat.specs.declared.files.place.Place.{Place}
use Rattle.flat.specs.Places.{live, files_of, file_of, meaning_of}
use Rattle.flat.specs.RowsLemmas.{kept_bound}

-- ---- the loop

pub forget_more : (going : KeyName → Bool) (vs : List FileState) (cur : List Place) (i : ℕ) (s y : Place) → map file_of cur ≡ map (forgot going) (take i vs) ++ drop i vs → i < length vs → i < length cur → s ≡ slice_index_or cur i s → y.file ≡ forgot going s.file → map file_of (slice_set cur i y) ≡ map (forgot going) (take (i + 1) vs) ++ drop (i + 1) vs
forget_more going vs cur i s y inv h l is e =
    let seen : s.file ≡ get_or (map file_of cur) i s.file = ap file_of is ∙ sym (get_or-map file_of cur i s s.file l) in
    map-set file_of cur i y ∙ ap (set (map file_of cur) i) e ∙ map_over_more (forgot going) vs (map file_of cur) i s.file h inv seen

pub forget_all : (going : KeyName → Bool) (vs : List FileState) (i : ℕ) → length vs ≤ i → map (forgot going) (take i vs) ++ drop i vs ≡ map (forgot going) vs
forget_all going vs i h = ap (λ l. map (forgot going) (take i vs) ++ l) (drop_all i vs h) ∙ append-nil _ ∙ ap (map (forgot going)) (take_all i vs h)

-- ---- the files after it

pub nth_map : {X Y : Type 0} (f : X → Y) (xs : List X) (i : ℕ) → slice_get (map f xs) i ≡ option_map f (slice_get xs i)
nth_map f [] i = refl
nth_map f (x ∷ xs) zero = refl
nth_map f (x ∷ xs) (suc i) = nth_map f xs i

forgot_by : (going : KeyName → Bool) (o : Option KeyName) (b : List ℕ) (n k h : ℕ) → let x : FileState = record { key = o; bytes = b; n = n; k = k; holds = h } in kept (forgot going x) ≡ unnamed going (kept x)
forgot_by going None b n k h =
    let x : FileState = record { key = None; bytes = b; n = n; k = k; holds = h } in
    elim (nat_lt 0 h || false) as (λ t. cond t (Some x) None ≡ unnamed going (cond t (Some x) None)) [ true ↦ refl | false ↦ refl ]
forgot_by going (Some q) b n k h =
    let x : FileState = record { key = Some q; bytes = b; n = n; k = k; holds = h } in
    let e = kept_bound x q refl in
    elim (going q) as (λ t. kept (cond t (with_key x None) x) ≡ cond t (kept (with_key x None)) (Some x)) [ true ↦ refl | false ↦ e ] ∙ ap (unnamed going) (sym e)

forgot_live : (going : KeyName → Bool) (o : Option FileState) → live (option_map (forgot going) o) ≡ unnamed going (live o)
forgot_live going None = refl
forgot_live going (Some x) = forgot_by going x.key x.bytes x.n x.k x.holds

pub forgot_all : (going : KeyName → Bool) (xs ys : List Place) → map file_of ys ≡ map (forgot going) (map file_of xs) → meaning_of ys ≡ unbound going (meaning_of xs)
unfolding files_of
forgot_all going xs ys e = ap files_of e ∙ fun_ext (λ f. ap live (nth_map (forgot going) (map file_of xs) f) ∙ forgot_live going (slice_get (map file_of xs) f))
