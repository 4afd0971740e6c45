-- Affine transformations of the plane, over any element type.
use Rattle.std.specs.Prelude.{List, [], ◌∷◌}
use Rattle.font_geom.specs.{declared.matrix.Matrix.Matrix, declared.point.Point.Point}

-- the elements in the order of `elements`
abbrev pub elements_of : {T : Type 0} → Matrix T → List T
elements_of m = m.xx ∷ m.yx ∷ m.xy ∷ m.yy ∷ m.dx ∷ m.dy ∷ []

-- each element has the property
pub record FitsEach {T : Type 0} (fits : T → Type 0) (m : Matrix T) : Type 0 where
  pub xx : fits m.xx
  pub yx : fits m.yx
  pub xy : fits m.xy
  pub yy : fits m.yy
  pub dx : fits m.dx
  pub dy : fits m.dy

-- the identity matrix
abbrev pub identity_matrix : {T : Type 0} → T → T → Matrix T
identity_matrix zero one = record { xx = one; yx = zero; xy = zero; yy = one; dx = zero; dy = zero }

-- ---- over the operators of an element: `product p x r` means that `p * x` returns r, and `sum` is the same for `+`

module _ {T : Type 0} (product sum : T → T → T → Type 0) where
  -- r is p * x + q * y
  pub record IsLinearForm (p x q y r : T) : Type 0 where
    pub first : T
    pub second : T
    pub is_first : product p x first
    pub is_second : product q y second
    pub is_sum : sum first second r

  -- r is p * x + q * y + d, added from left to right
  pub record IsAffineForm (p x q y d r : T) : Type 0 where
    pub linear : T
    pub is_linear : IsLinearForm p x q y linear
    pub is_sum : sum linear d r

  -- m transforms the point (x, y) to (x', y')
  pub record IsTransformed (m : Matrix T) (x y x' y' : T) : Type 0 where
    pub on_x : IsAffineForm m.xx x m.xy y m.dx x'
    pub on_y : IsAffineForm m.yx x m.yy y m.dy y'

  -- c is the product a * b, which applies b first, then a
  pub record IsProductOf (a b c : Matrix T) : Type 0 where
    pub xx : IsLinearForm a.xx b.xx a.xy b.yx c.xx
    pub yx : IsLinearForm a.yx b.xx a.yy b.yx c.yx
    pub xy : IsLinearForm a.xx b.xy a.xy b.yy c.xy
    pub yy : IsLinearForm a.yx b.xy a.yy b.yy c.yy
    pub dx : IsAffineForm a.xx b.dx a.xy b.dy a.dx c.dx
    pub dy : IsAffineForm a.yx b.dx a.yy b.dy a.dy c.dy

-- ---- preconditions of the operators: `can_multiply p x` is that of `p * x`, and `can_add` that of `+`

module _ {T : Type 0} (can_multiply : T → T → Type 0) (product : T → T → T → Type 0) (can_add : T → T → Type 0)
    (sum : T → T → T → Type 0) where
  -- p * x + q * y may be computed
  pub record CanTakeLinearForm (p x q y : T) : Type 0 where
    pub first : can_multiply p x
    pub second : can_multiply q y
    pub both : (r s : T) → product p x r → product q y s → can_add r s

  -- p * x + q * y + d may be computed
  pub record CanTakeAffineForm (p x q y d : T) : Type 0 where
    pub linear : CanTakeLinearForm p x q y
    pub shift : (r : T) → IsLinearForm product sum p x q y r → can_add r d

  -- m may be applied to the point (x, y)
  pub record CanTransform (m : Matrix T) (x y : T) : Type 0 where
    pub on_x : CanTakeAffineForm m.xx x m.xy y m.dx
    pub on_y : CanTakeAffineForm m.yx x m.yy y m.dy

  -- a may be multiplied by b
  pub record CanMultiply (a b : Matrix T) : Type 0 where
    pub xx : CanTakeLinearForm a.xx b.xx a.xy b.yx
    pub yx : CanTakeLinearForm a.yx b.xx a.yy b.yx
    pub xy : CanTakeLinearForm a.xx b.xy a.xy b.yy
    pub yy : CanTakeLinearForm a.yx b.xy a.yy b.yy
    pub dx : CanTakeAffineForm a.xx b.dx a.xy b.dy a.dx
    pub dy : CanTakeAffineForm a.yx b.dx a.yy b.dy a.dy

-- ---- the same as functions, if each sum and product has one result

module _ {T : Type 0} (plus times : T → T → T) where
  -- p * x + q * y
  abbrev pub linear_form : T → T → T → T → T
  linear_form p x q y = plus (times p x) (times q y)

  -- p * x + q * y + d, added from left to right
  abbrev pub affine_form : T → T → T → T → T → T
  affine_form p x q y d = plus (linear_form p x q y) d

  -- the image of the point under m
  abbrev pub image_of : Matrix T → Point T → Point T
  image_of m p = record { x = affine_form m.xx p.x m.xy p.y m.dx; y = affine_form m.yx p.x m.yy p.y m.dy }

  -- the product a * b, which applies b first, then a
  abbrev pub matrix_product : Matrix T → Matrix T → Matrix T
  matrix_product a b = record {
    xx = linear_form a.xx b.xx a.xy b.yx;
    yx = linear_form a.yx b.xx a.yy b.yx;
    xy = linear_form a.xx b.xy a.xy b.yy;
    yy = linear_form a.yx b.xy a.yy b.yy;
    dx = affine_form a.xx b.dx a.xy b.dy a.dx;
    dy = affine_form a.yx b.dx a.yy b.dy a.dy;
  }
