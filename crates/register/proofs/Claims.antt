-- The claims on the register, proved. Assumes nothing.
use mathlib.Core.Path.{refl}
use Rattle.register.specs.Claims.{All}
use Rattle.register.proofs.RegisterLaws.{grants-desk, grants-has, has-grants, desk-pair, grants-none, sound-length, length-sound}

pub claims : All
claims = (
  λ register owner. grants-desk register 0 owner refl,
  grants-none,
  λ register sender owner. (grants-has register sender owner, λ p. has-grants register sender owner p.0 p.1),
  desk-pair,
  λ register. (sound-length register, λ p. length-sound register p.0 p.1 p.2),
)
