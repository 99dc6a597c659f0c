-- A path of one source starts with the class that its source declares.
use mathlib.Core.Path.{◌≡◌, refl}
use Rattle.flow.specs.Declarations.{class_of}
use Rattle.sheet.specs.Paths.{Path, sources, source_at, path_class}

module _ (path : Path) where
  pub source-declares : source_at path 0 ≡ path.declaration
  unfolding source_at sources
  source-declares = refl

  pub class-of-source : path_class path ≡ class_of (source_at path 0)
  unfolding path_class source_at sources
  class-of-source = refl
