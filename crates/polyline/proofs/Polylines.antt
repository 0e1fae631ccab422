-- Flattening a path is flattening its subpaths, one polyline each, end to end; the ends rise strictly to the number of points, and there are as many marks.
-- Assumes nothing.
use mathlib.Core.Path.{◌≡◌, refl, sym, ap, ◌∙◌}
use mathlib.Core.Bool.{Bool, true, false, ◌||◌, cond, true≢false, false≢true}
use mathlib.Core.List.{List, [], ◌∷◌, ◌++◌, append_assoc, append-nil, map}
use Prim.Native.Nat.{ℕ, ◌+◌, ◌-◌, ◌≤◌}
use native.Mathlib.Nat.{add-zero, zero-add, add_assoc}
use native.Mathlib.Omega.{arith}
use lib.ListN.{length, drop, length-append}
use lib.Seq.{take_at}
use lib.Ieee.{Float}
use Rattle.vec2.specs.declared.Vec2.{Vec2}
use Rattle.path.specs.declared.Segment.{Segment}
use Rattle.path.specs.declared.Segment.TheVariants.{Move, Line, Quad, Cubic, Close}
use Rattle.path.specs.Segment.{is_drawn, is_move}
use Rattle.polyline.specs.declared.Spot.{Spot}
use Rattle.polyline.specs.Flatten.{nowhere, close_adds, after, spot, body, writes, written, only_if, endings, points_out, ends_out}
use Rattle.polyline.specs.Polylines.{polylines, end_to_end, ends_of, Rising}
use Rattle.polyline.specs.Subpaths.{subpaths_from, subpaths, any_drawn, with_drawn, mark_of, marks_out}
use Rattle.polyline.proofs.Lengths.{own}
use Rattle.polyline.proofs.Ends.{written_append, writes_drawn}
use Rattle.polyline.proofs.Subpaths.{by_parts, drawn_parts, drawn_more_lem}

module _ (tol : Float) where
  -- ---- the points

  -- nothing stands from before a move
  move_fresh : (w : Spot) (p : Vec2) (b : List Segment) → written tol w (Move p ∷ b) ≡ points_out tol (Move p ∷ b)
  unfolding written writes body after
  move_fresh w p b = refl

  pub points_cut : (a : List Segment) (p : Vec2) (b : List Segment) → points_out tol (a ++ Move p ∷ b) ≡ points_out tol a ++ points_out tol (Move p ∷ b)
  points_cut a p b = written_append tol a (Move p ∷ b) nowhere ∙ ap (λ (r : List Vec2). points_out tol a ++ r) (move_fresh (spot nowhere a) p b)

  pub subpath_points : (ss : List Segment) → end_to_end (map (points_out tol) (subpaths ss)) ≡ points_out tol ss
  unfolding written
  subpath_points [] = refl
  subpath_points (s ∷ ss) =
      by_parts (λ part ss parts. end_to_end (map (points_out tol) parts) ≡ points_out tol (part ++ ss))
      (λ part. append-nil _ ∙ sym (ap (points_out tol) (append-nil part)))
      (λ part p ss h. ap (λ (r : List Vec2). points_out tol part ++ r) h ∙ sym (points_cut part p ss))
      (λ part s ss m h. h ∙ ap (points_out tol) (append_assoc part (s ∷ []) ss))
      ss (s ∷ [])

  -- ---- a subpath with no drawn verb writes nothing; one with a drawn verb writes some point

  undrawn_writes : (w : Spot) (s : Segment) → is_drawn s ≡ false → w.drawn ≡ false → (writes tol w s ≡ []) × ((after w s).drawn ≡ false)
  unfolding writes body after close_adds
  undrawn_writes w (Move p) h e = (refl, refl)
  undrawn_writes w (Line p) h e = absurd (true≢false h)
  undrawn_writes w (Quad c p) h e = absurd (true≢false h)
  undrawn_writes w (Cubic c d p) h e = absurd (true≢false h)
  undrawn_writes w Close h e = (rw e, e)

  pub none_written : (part : List Segment) (w : Spot) → any_drawn part ≡ false → w.drawn ≡ false → written tol w part ≡ []
  unfolding written
  none_written [] w h e = refl
  none_written (s ∷ part) w h e = go (is_drawn s) refl h (none_written part (after w s))
    where
      go : (b : Bool) → is_drawn s ≡ b → (b || any_drawn part) ≡ false → (any_drawn part ≡ false → (after w s).drawn ≡ false → written tol (after w s) part ≡ []) →
          writes tol w s ++ written tol (after w s) part ≡ []
      go true d a f = absurd (true≢false a)
      go false d a f = let u = undrawn_writes w s d e in rw u.0 (f a u.1)

  drawn_writes : (w : Spot) (s : Segment) → is_drawn s ≡ true → 1 ≤ length (writes tol w s)
  drawn_writes w s h = rw (writes_drawn tol w s h, (own tol w s h).is) (simp length-append (omega arith))

  pub some_written : (part : List Segment) (w : Spot) → any_drawn part ≡ true → 1 ≤ length (written tol w part)
  unfolding written
  some_written [] w h = absurd (false≢true h)
  some_written (s ∷ part) w h = go (is_drawn s) refl h (some_written part (after w s))
    where
      go : (b : Bool) → is_drawn s ≡ b → (b || any_drawn part) ≡ true → (any_drawn part ≡ true → 1 ≤ length (written tol (after w s) part)) →
          1 ≤ length (writes tol w s ++ written tol (after w s) part)
      go true d a f = simp length-append (omega (arith, drawn_writes w s d))
      go false d a f = simp length-append (omega (arith, f a))

  -- ---- the ends

  spot_more : (part : List Segment) (s : Segment) (w : Spot) → spot w (part ++ s ∷ []) ≡ after (spot w part) s
  unfolding spot
  spot_more [] s w = refl
  spot_more (t ∷ part) s w = spot_more part s (after w t)

  points_more : (part : List Segment) (s : Segment) → length (points_out tol (part ++ s ∷ [])) ≡ length (points_out tol part) + length (writes tol (spot nowhere part) s)
  unfolding written
  points_more part s = ap length (written_append tol part (s ∷ []) nowhere) ∙ simp (length-append, append-nil)

  end_first : (part : List Segment) (parts : List (List Segment)) (n : ℕ) →
      only_if (any_drawn part) (n + length (points_out tol part)) ++ ends_of (n + length (points_out tol part)) (map (points_out tol) (with_drawn parts))
      ≡ ends_of n (map (points_out tol) (with_drawn (part ∷ parts)))
  unfolding with_drawn
  end_first part parts n = go (any_drawn part) refl
    where
      go : (b : Bool) → any_drawn part ≡ b →
          only_if b (n + length (points_out tol part)) ++ ends_of (n + length (points_out tol part)) (map (points_out tol) (with_drawn parts))
          ≡ ends_of n (map (points_out tol) (cond b (part ∷ with_drawn parts) (with_drawn parts)))
      go true e = refl
      go false e = rw (none_written part nowhere e refl, add-zero n)

  -- with `part` read of the present subpath, behind n points
  abbrev Ending : List Segment → List Segment → List (List Segment) → Type 0
  Ending part ss parts =
      (n : ℕ) → (spot nowhere part).drawn ≡ any_drawn part →
      endings tol (n + length (points_out tol part)) (spot nowhere part) ss ≡ ends_of n (map (points_out tol) (with_drawn parts))

  ending_end : (part : List Segment) → Ending part [] (part ∷ [])
  unfolding endings with_drawn
  ending_end part n d = rw d (sym (append-nil _) ∙ end_first part [] n)

  ending_cut : (part : List Segment) (p : Vec2) (ss : List Segment) → Ending (Move p ∷ []) ss (subpaths_from (Move p ∷ []) ss) → Ending part (Move p ∷ ss) (part ∷ subpaths_from (Move p ∷ []) ss)
  unfolding endings written writes body after spot
  ending_cut part p ss h n d =
      rw d
      (ap (λ (r : List ℕ). only_if (any_drawn part) (n + length (points_out tol part)) ++ r) (h (n + length (points_out tol part)) refl)
      ∙ end_first part (subpaths_from (Move p ∷ []) ss) n)

  ending_on : (part : List Segment) (s : Segment) (ss : List Segment) → is_move s ≡ false →
      Ending (part ++ s ∷ []) ss (subpaths_from (part ++ s ∷ []) ss) → Ending part (s ∷ ss) (subpaths_from (part ++ s ∷ []) ss)
  unfolding endings
  ending_on part s ss m h n d =
      let k : n + length (points_out tol part) + length (writes tol (spot nowhere part) s) ≡ n + length (points_out tol (part ++ s ∷ [])) = omega (arith, points_more part s) in
      rw (m, k, ← spot_more part s nowhere) (h n (ap (λ (w : Spot). w.drawn) (spot_more part s nowhere) ∙ drawn_more_lem (spot nowhere part) part s m d))

  pub subpath_ends : (ss : List Segment) → ends_out tol ss ≡ ends_of 0 (map (points_out tol) (with_drawn (subpaths ss)))
  unfolding written spot
  subpath_ends ss = by_parts Ending ending_end ending_cut ending_on ss [] 0 refl ∙ ap (λ (r : List (List Segment)). ends_of 0 (map (points_out tol) r)) (drawn_parts ss)

  -- ---- one polyline each

  drawn_points : (parts : List (List Segment)) → end_to_end (map (points_out tol) (with_drawn parts)) ≡ end_to_end (map (points_out tol) parts)
  unfolding with_drawn
  drawn_points [] = refl
  drawn_points (part ∷ parts) = go (any_drawn part) refl (drawn_points parts)
    where
      go : (b : Bool) → any_drawn part ≡ b → end_to_end (map (points_out tol) (with_drawn parts)) ≡ end_to_end (map (points_out tol) parts) →
          end_to_end (map (points_out tol) (cond b (part ∷ with_drawn parts) (with_drawn parts))) ≡ points_out tol part ++ end_to_end (map (points_out tol) parts)
      go true e h = ap (λ (r : List Vec2). points_out tol part ++ r) h
      go false e h = rw (none_written part nowhere e refl) h

  -- the points are those of the subpaths with a drawn verb
  pub drawn_subpath_points : (ss : List Segment) → end_to_end (map (points_out tol) (with_drawn (subpaths ss))) ≡ points_out tol ss
  drawn_subpath_points ss = drawn_points (subpaths ss) ∙ subpath_points ss

  pub subpath_polylines : (ss : List Segment) → polylines 0 (points_out tol ss) (ends_out tol ss) ≡ map (points_out tol) (with_drawn (subpaths ss))
  subpath_polylines ss = rw (← drawn_subpath_points ss, subpath_ends ss) (parted 0 (map (points_out tol) (with_drawn (subpaths ss))))
    where
      drop_at : (a b : List Vec2) → drop (length a) (a ++ b) ≡ b
      drop_at [] b = refl
      drop_at (x ∷ a) b = drop_at a b

      -- cut at its ends, a list of lists is what it was
      parted : (n : ℕ) (ls : List (List Vec2)) → polylines n (end_to_end ls) (ends_of n ls) ≡ ls
      parted n [] = refl
      parted n (l ∷ ls) =
          let k : n + length l - n ≡ length l = omega arith in
          rw (k, take_at l (end_to_end ls) (length l) refl, drop_at l (end_to_end ls)) (ap (λ (r : List (List Vec2)). l ∷ r) (parted (n + length l) ls))

  -- ---- the ends rise strictly from above 0 to the number of points

  rises : (parts : List (List Segment)) (n : ℕ) → Rising n (ends_of n (map (points_out tol) (with_drawn parts))) (n + length (end_to_end (map (points_out tol) (with_drawn parts))))
  unfolding with_drawn
  rises [] n = sym (add-zero n)
  rises (part ∷ parts) n = go (any_drawn part) refl (rises parts)
    where
      go : (b : Bool) → any_drawn part ≡ b →
          ((n : ℕ) → Rising n (ends_of n (map (points_out tol) (with_drawn parts))) (n + length (end_to_end (map (points_out tol) (with_drawn parts))))) →
          Rising n (ends_of n (map (points_out tol) (cond b (part ∷ with_drawn parts) (with_drawn parts))))
          (n + length (end_to_end (map (points_out tol) (cond b (part ∷ with_drawn parts) (with_drawn parts)))))
      go true e f = (omega (arith, some_written part nowhere e), simp (length-append, ← add_assoc) (f (n + length (points_out tol part))))
      go false e f = f n

  pub ends_rise : (ss : List Segment) → Rising 0 (ends_out tol ss) (length (points_out tol ss))
  ends_rise ss = rw (subpath_ends ss, ← drawn_subpath_points ss) (rw zero-add at (rises (subpaths ss) 0))

  -- ---- as many marks as ends

  pub marks_ends : (ss : List Segment) → length (marks_out ss) ≡ length (ends_out tol ss)
  unfolding marks_out
  marks_ends ss = rw (subpath_ends ss) (many 0 (with_drawn (subpaths ss)))
    where
      many : (n : ℕ) (parts : List (List Segment)) → length (map mark_of parts) ≡ length (ends_of n (map (points_out tol) parts))
      many n [] = refl
      many n (part ∷ parts) = omega (arith, many (n + length (points_out tol part)) parts)
