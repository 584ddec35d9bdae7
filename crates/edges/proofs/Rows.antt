-- Each row holds by computation.
use Rattle.std.proofs.Common.{refl}
use lib.Ieee
use Rattle.std.specs.Float.{float_is_finite}
use Rattle.std.specs.Fmt.{digits}
use Rattle.edges.specs.Edges.{Edges}

pub edges : Edges
unfolding lib.Ieee.lt lib.Ieee.le lib.Ieee.of_bits lib.Ieee.is_nan lib.Ieee.to_bits lib.Ieee.of_int lib.Ieee.mul lib.Ieee.div float_is_finite digits
edges = (
  (refl, refl, refl),
  (
    (refl, refl, refl),
    (
      (refl, refl, refl),
      (
        (refl, refl, refl),
        (
          (refl, refl),
          (
            (refl, refl),
            (
              (refl, refl),
              (
                (refl, refl),
                (
                  refl,
                  (
                    record { set_up = refl; ended = refl },
                    (
                      record { set_up = refl; ended = refl },
                      (
                        refl,
                        (
                          refl,
                          (
                            record { set_up = refl; ended = refl },
                            (
                              record { set_up = refl; ended = refl },
                              (
                                record { set_up = refl; ended = refl },
                                (
                                  record { set_up = refl; ended = refl },
                                  tt,
                                ),
                              ),
                            ),
                          ),
                        ),
                      ),
                    ),
                  ),
                ),
              ),
            ),
          ),
        ),
      ),
    ),
  ),
)
