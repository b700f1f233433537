-- From the lanes of sixteen bytes that are within two bounds to the bytes.
use Rattle.std.proofs.Common.{◌≡◌, ℕ, ◌+◌, ◌-◌, ◌%◌, ◌^◌, ◌≤◌, ◌<◌, false, not, cond, ltb}
use Rattle.std.proofs.Common.{w8, List, map, length, get_or, replicate, sym, ap, ◌∙◌, arith}
use Rattle.std.proofs.lemmas.Bool.{ltb-false}
use Rattle.std.proofs.lemmas.List.{length-map}
use Rattle.std.proofs.lemmas.Simd.{map-map, mask_l-mod, tops_compared, zip2_splat_left, length-chunk}
use Rattle.std.proofs.lemmas.Simd.{leading_from_mask_l, trailing_mask_l, run_in_chunk_le, run_in_chunk_fails}
use Rattle.std.specs.List.{prefix_len}
use lib.Count.{count_trailing_zeros}
use lib.Lanes.{zip2, chunk, mask_l, top}
use Rattle.char_lanes.specs.Between.{AreBetween, is_outside}

module _ (first last : ℕ) where
  -- the mask of one comparison of the bytes less the first
  pub outside_mask : (v lanes : List ℕ)
      → length v ≡ 16
      → lanes ≡ map (λ byte. (byte + (256 - first)) % 256) v
      → mask_l (map (top 7) (zip2 (λ a b. cond (ltb a b) (2 ^ 8 - 1) 0) (replicate 16 (last - first)) lanes)) % 2 ^ 64
      ≡ mask_l (map (is_outside first last) v)
  outside_mask v lanes long same =
      let f = λ (byte : ℕ). (byte + (256 - first)) % 256 in
      ap (λ l. mask_l l % 2 ^ 64)
      (
      tops_compared w8 ltb (replicate 16 (last - first)) lanes ∙ ap (zip2 ltb (replicate 16 (last - first))) same
      ∙ zip2_splat_left ltb (last - first) 16 (map f v) (length-map v f ∙ long) ∙ map-map (ltb (last - first)) f v
      )
      ∙ mask_l-mod (map (is_outside first last) v) 64 (omega (arith, long, length-map v (is_outside first last)))

  inside : (byte : ℕ)
      → first ≤ last
      → last < 256
      → byte < 256
      → is_outside first last byte ≡ false
      → (first ≤ byte) × (byte ≤ last)
  inside byte order small fits none = let h = ltb-false _ _ none in (omega (arith, h), omega (arith, h))

  module _ (bytes : List ℕ) (from : ℕ) (order : first ≤ last) (small : last < 256) (room : from + 16 ≤ length bytes)
      (fits : (k : ℕ) → get_or bytes k 0 < 256) where
    run_of : (r : ℕ)
        → r ≡ prefix_len (λ x. not (is_outside first last x)) (chunk from 16 bytes)
        → (r ≤ 16) × AreBetween first last bytes from (from + r)
    run_of r counted = (
      run_in_chunk_le (is_outside first last) bytes from 16 r 0 room counted,
      λ k above below. inside (get_or bytes k 0) order small (fits k)
          (run_in_chunk_fails (is_outside first last) bytes from 16 r 0 room counted k above below),
    )

    pub all_sixteen : (stops : ℕ)
        → stops ≡ mask_l (map (is_outside first last) (chunk from 16 bytes))
        → stops ≡ 0
        → AreBetween first last bytes from (from + 16)
    all_sixteen stops is none =
        (run_of 16 (sym (leading_from_mask_l (is_outside first last) (chunk from 16 bytes) (sym is ∙ none)
        ∙ length-chunk from 16 bytes room))).1

    pub some_of_sixteen : (stops : ℕ) → stops ≡ mask_l (map (is_outside first last) (chunk from 16 bytes)) → 0 < stops
        → (count_trailing_zeros 64 stops ≤ 16) × AreBetween first last bytes from (from + count_trailing_zeros 64 stops)
    some_of_sixteen stops is some =
        run_of (count_trailing_zeros 64 stops)
        (
        ap (count_trailing_zeros 64) is
        ∙ trailing_mask_l (is_outside first last) 64 (chunk from 16 bytes)
        (omega (arith, length-chunk from 16 bytes room)) (omega (arith, is, some))
        )
