-- The record of a query's committed hit. (Own: the layout; the fields are what
-- OpRayQueryGetIntersection.. of SPV_KHR_ray_query report of a committed intersection.)
use Rattle.std.specs.Prelude.{ℕ, Option, Some, None, Bool, true, false}
use Rattle.ray_geom.specs.declared.frac.Frac.{Frac}
use Rattle.ray_geom.specs.Frac.{numerator, denominator}
use Rattle.ray_flags.specs.declared.kind.Kind.{Kind}
use Rattle.ray_flags.specs.declared.kind.Kind.TheVariants.{Triangle, Aabb}
use Rattle.ray_bytes.specs.declared.hit_record.HitRecord.{HitRecord}
use Rattle.ray_bytes.specs.Hits.{miss}
use Rattle.ray_query.specs.declared.commit.Commit.{Commit}

-- 1 for a triangle, 2 for a box
abbrev pub kind_word : Kind → ℕ
kind_word Triangle = 1
kind_word Aabb = 2

-- 1 for a triangle's front, 2 for its back, 0 for a box
abbrev pub face_word : Kind → Bool → ℕ
face_word Triangle true = 1
face_word Triangle false = 2
face_word Aabb front = 0

-- a fraction's numerator and denominator, in lowest terms
abbrev pub numbers_of : Frac → ℕ × ℕ
numbers_of f = (numerator f, denominator f)

-- the record of a committed hit, at the distance at which it was committed; of none, a miss
abbrev pub record_of : Option Commit → HitRecord
record_of None = miss
record_of (Some c) = record {
  kind = kind_word c.found.kind;
  instance = c.found.instance;
  custom = c.found.custom;
  sbt = c.found.sbt;
  geometry = c.found.geometry;
  primitive = c.found.primitive;
  face = face_word c.found.kind c.found.front;
  spare = 0;
  t = numbers_of c.t;
  u = numbers_of c.found.u;
  v = numbers_of c.found.v;
}
