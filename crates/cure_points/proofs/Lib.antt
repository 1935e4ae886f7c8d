pub mod PointLaws
